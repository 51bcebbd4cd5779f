use Rattle.std.proofs.Common.{◌≡◌, drop}
use Rattle.xdg_print.specs.Printed.{put}
use Rattle.xdg_print.specs.ValueWords.{constants_at}
use Rattle.xdg_print.proofs.Layered.{names_of}
use Rattle.xdg_print.proofs.members.put_fields.Given as goal

abbrev pub invariant-loop-field : goal.invariant-loop-field
invariant-loop-field l = put (constants_at (drop l.field (names_of l.types)) (drop l.field l.tuple)) l.printer ≡ put (constants_at (names_of l.types) l.tuple) l.initial.printer

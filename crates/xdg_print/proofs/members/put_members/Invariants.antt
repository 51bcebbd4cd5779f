use Rattle.std.proofs.Common.{◌≡◌, drop}
use Rattle.std.specs.List.{flat_map}
use Rattle.xdg_domain.specs.Shapes.{shape}
use Rattle.xdg_print.specs.Printed.{put}
use Rattle.xdg_print.specs.ValueWords.{member_words}
use Rattle.xdg_print.proofs.members.put_members.Given as goal

abbrev pub invariant-loop-number : goal.invariant-loop-number
invariant-loop-number l = put (flat_map (member_words (shape l.ty)) (drop l.number-index l.numbers)) l.printer ≡ put (flat_map (member_words (shape l.ty)) l.numbers) l.initial.printer

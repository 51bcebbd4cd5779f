use Rattle.std.proofs.Common.{◌≡◌, drop}
use Rattle.std.specs.List.{flat_map}
use Rattle.xdg_domain.specs.Shapes.{shape}
use Rattle.xdg_print.specs.Printed.{put}
use Rattle.xdg_print.specs.ValueWords.{counted_words}
use Rattle.xdg_print.proofs.values.put_valency.Given as goal

abbrev pub invariant-loop-entry : goal.invariant-loop-entry
invariant-loop-entry l = put (flat_map (counted_words (shape l.key)) (drop l.entry-index l.entries)) l.printer ≡ put (flat_map (counted_words (shape l.key)) l.entries) l.initial.printer

use Rattle.std.proofs.Common.{◌-◌}
use Rattle.xdg_split.proofs.Collecting.{Collected}
use Rattle.xdg_split.proofs.finding.find.Given as goal

abbrev pub invariant-draw : goal.invariant-draw
invariant-draw g l = Collected l.first l.fn.stream.parts l.fn.stream.budget l.stream l.found.items

abbrev pub decreases-draw : goal.decreases-draw
decreases-draw g l = l.stream.budget - l.stream.charged

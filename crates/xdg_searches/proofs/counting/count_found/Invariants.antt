use Rattle.std.proofs.Common.{◌-◌}
use Rattle.xdg_searches.proofs.Tallying.{Tallied}
use Rattle.xdg_searches.proofs.counting.count_found.Given as goal

abbrev pub invariant-draw : goal.invariant-draw
invariant-draw g l = Tallied l.problem l.fn.stream.budget l.stream l.analyses l.broken

abbrev pub decreases-draw : goal.decreases-draw
decreases-draw g l = l.stream.budget - l.stream.charged

use Rattle.std.proofs.Common.{◌-◌}
use Rattle.xdg_searches.proofs.Branching.{Upto}
use Rattle.xdg_searches.proofs.searching.search.Given as goal

abbrev pub invariant-loop-place : goal.invariant-loop-place
invariant-loop-place g l = Upto l.problem l.budget l.first l.place l.found.ending l.found.found.items

abbrev pub decreases-loop-place : goal.decreases-loop-place
decreases-loop-place g l = l.count - l.place

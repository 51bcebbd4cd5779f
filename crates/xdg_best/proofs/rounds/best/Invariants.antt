use Rattle.xdg_best.proofs.Going.{Going}
use Rattle.xdg_best.proofs.rounds.best.Given as goal

abbrev pub invariant-rounds : goal.invariant-rounds
invariant-rounds g l = Going l.problem l.costs l.fn.budget l.found l.cost l.left

abbrev pub decreases-rounds : goal.decreases-rounds
decreases-rounds g l = l.left

use Rattle.std.proofs.Common.{length}
use Rattle.xdg_problem.specs.Claims.{claim}
use Rattle.xdg_problem.specs.Truths.{stands}
use Rattle.xdg_formula_value.proofs.Finding.{NoneUpTo}
use Rattle.xdg_formula_value.proofs.lost.+freeing.Given as goal

abbrev pub decreases-found : goal.decreases-found
decreases-found l = length l.free

abbrev pub invariant-loop-node : goal.invariant-loop-node
invariant-loop-node l = NoneUpTo l.store.parts l.store.now (claim l.formula) l.truth l.fn.free (stands l.binding) l.name.0 l.node

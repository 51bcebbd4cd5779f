use Rattle.std.proofs.Common.{◌≡◌, true}
use Rattle.xdg_problem.specs.Claims.{claim}
use Rattle.xdg_propcore.specs.Standing.{box_at}
use Rattle.xdg_formula_value.proofs.Under.{NoneMet}
use Rattle.xdg_formula_value.proofs.about.found_since.Given as goal

abbrev pub invariant-loop-decision : goal.invariant-loop-decision
invariant-loop-decision l = l.seen ≡ true → NoneMet l.store.parts (box_at l.store l.fn.since) l.store.now (claim l.formula) l.truth l.names l.decision-items l.decision-index

use Rattle.std.proofs.Common.{◌≡◌, true}
use Rattle.xdg_problem.specs.Claims.{claim}
use Rattle.xdg_propcore.specs.Standing.{box_at}
use Rattle.xdg_formula_value.proofs.Concerning.{NoneTouched}
use Rattle.xdg_formula_value.proofs.about.+about.Given as goal

abbrev pub invariant-found_among-loop-part : goal.invariant-found_among-loop-part
invariant-found_among-loop-part l = (l.seen ≡ true → NoneTouched l.store.parts (box_at l.store l.since) l.store.now (claim l.formula) l.truth l.free l.names l.decision l.parts l.part-index) × (l.seen ≡ true → l.fn.seen ≡ true)

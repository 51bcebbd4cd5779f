use Rattle.std.proofs.Common.{◌≡◌, ◌<◌, ℕ}
use Rattle.xdg_problem.specs.Boxes.{Has, attr_decision}
use Rattle.xdg_formula_value.proofs.atoms.is_only.Given as goal

abbrev pub invariant-loop-other : goal.invariant-loop-other
invariant-loop-other l = (x : ℕ) → x < l.other → Has l.store.now (attr_decision l.store.parts l.dim.0 l.node.0 l.attr.0) x → x ≡ l.value

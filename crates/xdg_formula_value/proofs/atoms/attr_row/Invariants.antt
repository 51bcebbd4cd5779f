use Rattle.std.proofs.Common.{◌≡◌}
use Rattle.xdg_problem.specs.Boxes.{attr_decision}
use Rattle.xdg_problem.specs.Truths.{HasTruth}
use Rattle.xdg_rules.specs.Worths.{EachValue}
use Rattle.xdg_problem.specs.Places.{nodes}
use Rattle.xdg_formula_value.specs.Rows.{AreFirst}
use Rattle.xdg_formula_value.proofs.Rowed.{Gathered}
use Rattle.xdg_formula_value.proofs.atoms.attr_row.Given as goal

abbrev pub invariant-loop-one : goal.invariant-loop-one
invariant-loop-one l =
    (goal.iterator-loop-one).can_next l.one-iterator
    × (goal.iterator-loop-one).is_finite l.one-iterator
    × AreFirst (nodes l.store.parts) l.one-iterator
    × Gathered l.fn.care (λ v. EachValue l.store.now (attr_decision l.store.parts l.dim.0 v l.attr.0) (λ x. HasTruth l.truth (x ≡ l.value))) l.one-iterator l.row

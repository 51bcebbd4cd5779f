use Rattle.std.proofs.Common.{◌≡◌, true}
use Rattle.xdg_problem.specs.Truths.{says, HasTruth}
use Rattle.xdg_rules.specs.Rules.{EachEntry}
use Rattle.xdg_problem.specs.Places.{nodes}
use Rattle.xdg_formula_value.specs.Rows.{AreFirst}
use Rattle.xdg_formula_value.proofs.Rowed.{Gathered}
use Rattle.xdg_formula_value.proofs.atoms.feat_row.Given as goal

abbrev pub invariant-loop-one : goal.invariant-loop-one
invariant-loop-one l =
    (goal.iterator-loop-one).can_next l.one-iterator
    × (goal.iterator-loop-one).is_finite l.one-iterator
    × AreFirst (nodes l.store.parts) l.one-iterator
    × Gathered l.fn.care (λ v. EachEntry l.store.now v (λ c. HasTruth l.truth (says l.table v c ≡ true))) l.one-iterator l.row

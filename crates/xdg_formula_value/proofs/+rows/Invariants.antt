use Rattle.std.proofs.Common.{take}
use Rattle.xdg_problem.specs.Places.{nodes}
use Rattle.xdg_formula_value.specs.Rows.{AreFirst, IsRowOn}
use Rattle.xdg_problem.specs.Truths.{stands}
use Rattle.xdg_formula_value.proofs.Forms.{SeveralSo}
use Rattle.xdg_formula_value.proofs.Narrowed.{IsSoOver}
use Rattle.xdg_formula_value.proofs.Rowed.{Gathered}
use Rattle.xdg_formula_value.proofs.Stood.{AgreeOutside}
use Rattle.xdg_formula_value.proofs.+rows.Given as goal

abbrev pub invariant-quantified::quantified_row-loop-node :
    goal.invariant-quantified::quantified_row-loop-node
invariant-quantified::quantified_row-loop-node l =
    (goal.iterator-quantified::quantified_row-loop-node).can_next l.node-iterator
    × (goal.iterator-quantified::quantified_row-loop-node).is_finite l.node-iterator
    × AreFirst (nodes l.store.parts) l.node-iterator
    × AgreeOutside l.name (stands l.here) (stands l.binding)
    × Gathered l.initial.node-iterator (IsSoOver l.store.parts l.store.now l.truth l.each (stands l.binding) l.name l.other l.formula) l.node-iterator l.row

abbrev pub invariant-value::joined_row-loop-formula : goal.invariant-value::joined_row-loop-formula
invariant-value::joined_row-loop-formula l = IsRowOn l.care (SeveralSo l.store.parts l.store.now l.truth (stands l.binding) l.name l.care l.each (take l.formula-index l.formulas)) l.row

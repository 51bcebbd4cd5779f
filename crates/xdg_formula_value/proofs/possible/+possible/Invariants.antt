use Rattle.std.proofs.Common.{take}
use Rattle.xdg_formula_value.specs.Rows.{Bounds}
use Rattle.xdg_problem.specs.Truths.{stands}
use Rattle.xdg_formula_value.proofs.Bounding.{SeveralPossible}
use Rattle.xdg_formula_value.proofs.possible.+possible.Given as goal

abbrev pub invariant-possible_joined-loop-formula : goal.invariant-possible_joined-loop-formula
invariant-possible_joined-loop-formula l = Bounds l.care (SeveralPossible l.store.parts l.store.now l.truth (stands l.binding) l.name l.other l.care l.each (take l.formula-index l.formulas)) l.row

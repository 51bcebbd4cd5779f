use Rattle.std.proofs.Common.{◌≡◌, ◌↔◌, true, take}
use Rattle.xdg_problem.specs.Truths.{stands}
use Rattle.xdg_formula_value.proofs.Wholes.{SeveralMade}
use Rattle.xdg_formula_value.proofs.value.+whole.Given as goal

abbrev pub invariant-makes_joined-loop-formula : goal.invariant-makes_joined-loop-formula
invariant-makes_joined-loop-formula l = ((l.so_far ≡ true) ↔ SeveralMade l.store.parts l.store.now l.truth (stands l.binding) l.each (take l.formula-index l.formulas))

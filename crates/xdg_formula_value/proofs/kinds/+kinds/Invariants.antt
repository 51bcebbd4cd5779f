use Rattle.std.proofs.Common.{take}
use Rattle.xdg_formula_value.proofs.Kinding.{HasEach}
use Rattle.xdg_formula_value.proofs.kinds.+kinds.Given as goal

abbrev pub invariant-kinds_of_each-loop-one : goal.invariant-kinds_of_each-loop-one
invariant-kinds_of_each-loop-one l = HasEach (take l.one-index l.formulas) l.kinds

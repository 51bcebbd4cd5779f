use Rattle.std.proofs.Common.{◌≡◌, ◌++◌, take}
use Rattle.xdg_problem.proofs.+copy.Given as goal

abbrev pub invariant-copying::add_formulas-loop-formula :
    goal.invariant-copying::add_formulas-loop-formula
invariant-copying::add_formulas-loop-formula l = l.made ≡ l.initial.made ++ take l.formula-index l.formulas

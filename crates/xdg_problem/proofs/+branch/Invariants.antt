use Rattle.std.proofs.Common.{◌≡◌, ◌++◌, map, take}
use Rattle.xdg_problem.specs.Branches.{branch_formula}
use Rattle.xdg_problem.proofs.+branch.Given as goal

abbrev pub invariant-branching::add_branches-loop-formula : goal.invariant-branching::add_branches-loop-formula
invariant-branching::add_branches-loop-formula l = l.made ≡ l.initial.made ++ map (branch_formula l.place) (take l.formula-index l.formulas)

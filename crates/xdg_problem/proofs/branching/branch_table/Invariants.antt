use Rattle.std.proofs.Common.{◌≡◌, ◌++◌, take}
use Rattle.xdg_problem.proofs.branching.branch_table.Given as goal

abbrev pub invariant-loop-row : goal.invariant-loop-row
invariant-loop-row l = l.made ≡ l.initial.made ++ take l.row-index l.others

use Rattle.std.proofs.Common.{◌≡◌, take}
use Rattle.xdg_problem.proofs.copying.copy_table.Given as goal

abbrev pub invariant-loop-row : goal.invariant-loop-row
invariant-loop-row l = l.made ≡ take l.row-index l.table

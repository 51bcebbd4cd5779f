use Rattle.std.proofs.Common.{◌≡◌, take}
use Rattle.xdg_problem.proofs.copying.copy_groups.Given as goal

abbrev pub invariant-loop-group : goal.invariant-loop-group
invariant-loop-group l = l.made ≡ take l.group-index l.groups

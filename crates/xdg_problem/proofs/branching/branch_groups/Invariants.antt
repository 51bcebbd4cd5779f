use Rattle.std.proofs.Common.{◌≡◌, map, take}
use Rattle.xdg_problem.specs.Branches.{branch_group}
use Rattle.xdg_problem.proofs.branching.branch_groups.Given as goal

abbrev pub invariant-loop-group : goal.invariant-loop-group
invariant-loop-group l = l.made ≡ map (branch_group l.place) (take l.group-index l.groups)

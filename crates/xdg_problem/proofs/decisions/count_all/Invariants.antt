use Rattle.std.proofs.Common.{◌≡◌, ◌≤◌, ◌*◌, take}
use Rattle.std.specs.List.{sum_by}
use Rattle.xdg_problem.specs.Counts.{dim_decisions}
use Rattle.xdg_problem.proofs.decisions.count_all.Given as goal

abbrev pub invariant-loop-plan : goal.invariant-loop-plan
invariant-loop-plan l = record {
  counted : l.total ≡ sum_by (dim_decisions l.nodes) (take l.plan-index l.dims);
  small : l.total ≤ l.plan-index * 521216;
}

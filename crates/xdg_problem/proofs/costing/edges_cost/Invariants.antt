use Rattle.std.proofs.Common.{◌≡◌, ◌≤◌, ◌*◌, take}
use Rattle.std.specs.List.{sum_by}
use Rattle.xdg_problem.specs.Costs.{label_cost}
use Rattle.xdg_problem.proofs.costing.edges_cost.Given as goal

abbrev pub invariant-loop-edge : goal.invariant-loop-edge
invariant-loop-edge l = record {
  counted : l.total ≡ sum_by (λ e. label_cost l.costs e.dim.0 e.label.0) (take l.edge-index l.edges);
  small : l.total ≤ l.edge-index * 4294967295;
}

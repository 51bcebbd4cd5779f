use Rattle.std.proofs.Common.{◌≡◌, ◌≤◌, ◌*◌, take}
use Rattle.std.specs.List.{sum_by}
use Rattle.xdg_problem.specs.Costs.{entry_cost}
use Rattle.xdg_problem.proofs.costing.entries_cost.Given as goal

abbrev pub invariant-loop-entry : goal.invariant-loop-entry
invariant-loop-entry l = record {
  counted : l.total ≡ sum_by (λ entry. entry_cost l.costs entry.0) (take l.entry-index l.entries);
  small : l.total ≤ l.entry-index * 4294967295;
}

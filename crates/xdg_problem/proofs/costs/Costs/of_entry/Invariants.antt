use Rattle.std.proofs.Common.{◌≡◌, drop}
use Rattle.xdg_problem.specs.Costs.{entry_cost_in}
use Rattle.xdg_problem.proofs.costs.Costs.of_entry.Given as goal

abbrev pub invariant-loop-one : goal.invariant-loop-one
invariant-loop-one l = entry_cost_in (drop l.one-index l.one-items) l.entry.0 ≡ entry_cost_in l.self.entries l.entry.0

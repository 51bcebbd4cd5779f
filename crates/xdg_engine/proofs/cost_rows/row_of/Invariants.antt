use Rattle.std.proofs.Common.{◌≡◌, map, take}
use Rattle.xdg_problem.specs.Costs.{entry_cost}
use Rattle.xdg_engine.proofs.cost_rows.row_of.Given as goal

abbrev pub invariant-loop-entry : goal.invariant-loop-entry
invariant-loop-entry l = l.row ≡ map (λ entry. entry_cost l.costs entry.0) (take l.entry-index l.candidates)

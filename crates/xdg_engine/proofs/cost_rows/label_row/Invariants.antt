use Rattle.std.proofs.Common.{◌≡◌, ◌<◌, ℕ, length}
use Rattle.std.specs.Prelude.{slice_index}
use Rattle.xdg_problem.specs.Costs.{label_cost}
use Rattle.xdg_engine.proofs.cost_rows.label_row.Given as goal

abbrev pub invariant-loop-label : goal.invariant-loop-label
invariant-loop-label l = ((k : ℕ) → k < l.label → slice_index l.row k ≡ label_cost l.costs l.dim.0 k) × (length l.row ≡ 32)

use Rattle.std.proofs.Common.{◌≡◌, ◌<◌, ℕ, [], length}
use Rattle.std.specs.Prelude.{slice_index, slice_index_or}
use Rattle.xdg_problem.specs.Costs.{label_cost}
use Rattle.xdg_engine.proofs.cost_rows.label_rows.Given as goal

abbrev pub invariant-loop-dim : goal.invariant-loop-dim
invariant-loop-dim l = ((d k : ℕ) → d < l.dim → k < 32 → slice_index (slice_index_or l.rows d []) k ≡ label_cost l.costs d k) × (length l.rows ≡ 8)

use Rattle.std.proofs.Common.{◌≡◌, ◌<◌, ℕ, length, get_or}
use Rattle.xdg_store.specs.Across.{IsFull, daughter_at, no_mothers}
use Rattle.xdg_store.proofs.across.fill_rows.Given as goal

abbrev pub invariant-loop-place : goal.invariant-loop-place
invariant-loop-place l =
    (length l.rows.items ≡ length l.fn.rows.items)
    × ((k : ℕ) → k < l.place → IsFull l.nodes (daughter_at l.nodes k) (get_or l.rows.items k no_mothers))

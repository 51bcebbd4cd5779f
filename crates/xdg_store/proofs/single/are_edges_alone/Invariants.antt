use Rattle.std.proofs.Common.{◌≡◌, ◌≢◌, ◌<◌, ◌+◌, ◌*◌, ◌/◌, ◌%◌, ℕ, true}
use Rattle.xdg_store.specs.Layout.{is_set}
use Rattle.xdg_store.proofs.single.are_edges_alone.Given as goal

abbrev pub invariant-loop-place : goal.invariant-loop-place
invariant-loop-place l = (k : ℕ) → k < l.place → k % l.nodes ≢ l.mother → is_set l.trail.words (l.start + k / l.nodes * 256 + k % l.nodes) ≡ true → is_set l.trail.words (l.start + k / l.nodes * 256 + k % l.nodes + 128) ≡ true → ⊥

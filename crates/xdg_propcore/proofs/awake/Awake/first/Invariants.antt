use Rattle.std.proofs.Common.{◌≡◌, ℕ, ◌<◌, ◌*◌, true, slice_index_or, Fits, w64}
use Rattle.xdg_store.specs.Layout.{is_set}
use Rattle.xdg_propcore.proofs.awake.Awake.first.Given as goal

abbrev pub invariant-loop-place : goal.invariant-loop-place
invariant-loop-place l = record {
  words : (i : ℕ) → Fits w64 (slice_index_or l.word-items i 0);
  none : (b : ℕ) → b < l.place * 64 → is_set l.word-items b ≡ true → ⊥;
}

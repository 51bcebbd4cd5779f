use Rattle.std.proofs.Common.{◌≡◌, ℕ, ◌<◌, get_or, length}
use Rattle.xdg_propcore.proofs.awake.clear.Given as goal

abbrev pub invariant-loop-place : goal.invariant-loop-place
invariant-loop-place l = record {
  length : length l.words.items ≡ length l.fn.words.items;
  zero : (place : ℕ) → place < l.place → get_or l.words.items place 0 ≡ 0;
}

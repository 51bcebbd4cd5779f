use Rattle.std.proofs.Common.{ℕ, ◌<◌, ◌≤◌, length, get_or}
use Rattle.xdg_facts.proofs.fits.Given as goal

abbrev pub invariant-loop-k : goal.invariant-loop-k
invariant-loop-k l = record {
  room : length l.numbers ≤ length l.shape;
  each : (i : ℕ) → i < l.k → get_or l.numbers i 0 < get_or l.shape i 0;
}

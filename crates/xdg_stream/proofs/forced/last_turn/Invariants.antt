use Rattle.std.proofs.Common.{◌≡◌, ℕ, ◌<◌, ◌≤◌, ◌-◌, length, slice_index}
use Rattle.xdg_stream.proofs.forced.last_turn.Given as goal

abbrev pub invariant-back : goal.invariant-back
invariant-back l = record {
  within : l.at ≤ length l.marks - 1;
  same : (k : ℕ) → l.at ≤ k → k < length l.marks → slice_index l.marks k ≡ slice_index l.marks l.at;
}

abbrev pub decreases-back : goal.decreases-back
decreases-back l = l.at

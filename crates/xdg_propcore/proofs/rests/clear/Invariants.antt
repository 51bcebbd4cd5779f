use Rattle.std.proofs.Common.{◌≡◌, ℕ, ◌<◌, None, get_or, length}
use Rattle.xdg_propcore.proofs.rests.clear.Given as goal

abbrev pub invariant-loop-at : goal.invariant-loop-at
invariant-loop-at l = record {
  length : length l.marks.items ≡ length l.fn.marks.items;
  each : (place : ℕ) → place < l.at → get_or l.marks.items place None ≡ None;
}

use Rattle.std.proofs.Common.{ℕ, ◌<◌, ◌≤◌, get_or, length}
use Rattle.xdg_linear.proofs.advancing.successor.Given as goal

abbrev pub invariant-loop-at : goal.invariant-loop-at
invariant-loop-at l = (l.pivot < l.at) × (l.at < length l.numbers) × ((k : ℕ) → l.at < k → k < length l.numbers → get_or l.numbers k 0 ≤ get_or l.numbers l.pivot 0)

abbrev pub decreases-loop-at : goal.decreases-loop-at
decreases-loop-at l = l.at

use Rattle.std.proofs.Common.{◌-◌, ◌≤◌, drop, length}
use Rattle.xdg_linear.specs.Falling.{Falls}
use Rattle.xdg_linear.proofs.advancing.pivot.Given as goal

abbrev pub invariant-loop-at : goal.invariant-loop-at
invariant-loop-at l = (l.at ≤ length l.numbers) × Falls (drop (l.at - 1) l.numbers)

abbrev pub decreases-loop-at : goal.decreases-loop-at
decreases-loop-at l = l.at

use Rattle.std.proofs.Common.{◌≡◌, ◌≤◌, ◌+◌, ◌*◌, take}
use Rattle.std.specs.Prelude.{sum}
use Rattle.xdg_problem.specs.Vectors.{shape}
use Rattle.xdg_store.proofs.start.free_of.Given as goal

abbrev pub invariant-loop-at : goal.invariant-loop-at
invariant-loop-at l = (l.free + l.at ≡ sum (take l.at (shape l.problem))) × (l.free ≤ l.at * 1023)

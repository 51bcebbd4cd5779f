use Rattle.std.proofs.Common.{◌≡◌, take}
use Rattle.std.specs.Vec.{vec_capacity}
use Rattle.xdg_problem.specs.Vectors.{entries_at}
use Rattle.xdg_stream.proofs.held.refill_entries.Given as goal

abbrev pub invariant-loop-node : goal.invariant-loop-node
invariant-loop-node l = record {
  items : l.held.items ≡ entries_at l.candidates (take l.node l.numbers);
  room : vec_capacity l.held ≡ vec_capacity l.fn.held;
}

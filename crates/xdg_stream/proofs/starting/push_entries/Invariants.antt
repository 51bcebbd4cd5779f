use Rattle.std.proofs.Common.{◌≡◌, ◌++◌, take}
use Rattle.std.specs.Vec.{vec_capacity}
use Rattle.xdg_problem.specs.Vectors.{entry_places}
use Rattle.xdg_stream.proofs.starting.push_entries.Given as goal

abbrev pub invariant-loop-node : goal.invariant-loop-node
invariant-loop-node l = record {
  items : l.numbers.items ≡ l.fn.numbers.items ++ entry_places l.candidates (take l.node l.entries);
  room : vec_capacity l.numbers ≡ vec_capacity l.fn.numbers;
}

use Rattle.std.proofs.Common.{◌≡◌, ◌+◌, ◌++◌, drop, length}
use Rattle.std.specs.Vec.{vec_capacity}
use Rattle.xdg_stream.specs.Vectored.{marks}
use Rattle.xdg_stream.proofs.starting.push_marks.Given as goal

abbrev pub invariant-loop-place : goal.invariant-loop-place
invariant-loop-place l = record {
  items : l.numbers.items ++ marks (drop l.place-index l.edge_places) l.rest ≡ l.fn.numbers.items ++ marks l.edge_places l.edges;
  count : length l.numbers.items ≡ length l.fn.numbers.items + l.place-index;
  room : vec_capacity l.numbers ≡ vec_capacity l.fn.numbers;
}

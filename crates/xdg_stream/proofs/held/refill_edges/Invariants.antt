use Rattle.std.proofs.Common.{◌≡◌, take}
use Rattle.std.specs.Vec.{vec_capacity}
use Rattle.xdg_problem.specs.Vectors.{chosen}
use Rattle.xdg_stream.proofs.held.refill_edges.Given as goal

abbrev pub invariant-loop-place : goal.invariant-loop-place
invariant-loop-place l = record {
  items : l.held.items ≡ chosen l.edge_places (take l.place l.numbers);
  room : vec_capacity l.held ≡ vec_capacity l.fn.held;
}

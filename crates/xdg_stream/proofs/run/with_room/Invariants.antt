use Rattle.std.proofs.Common.{◌≡◌, ◌≤◌, take}
use Rattle.std.specs.Vec.{vec_capacity}
use Rattle.xdg_stream.proofs.run.with_room.Given as goal

abbrev pub invariant-loop-number : goal.invariant-loop-number
invariant-loop-number l = record {
  items : l.made.items ≡ take l.number-index l.numbers;
  room : l.fn.room ≤ vec_capacity l.made;
}

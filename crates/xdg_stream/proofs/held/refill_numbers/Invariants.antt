use Rattle.std.proofs.Common.{◌≡◌, take}
use Rattle.std.specs.Vec.{vec_capacity}
use Rattle.xdg_stream.proofs.held.refill_numbers.Given as goal

abbrev pub invariant-loop-number : goal.invariant-loop-number
invariant-loop-number l = record {
  items : l.held.items ≡ take l.number-index l.numbers;
  room : vec_capacity l.held ≡ vec_capacity l.fn.held;
}

use Rattle.std.proofs.Common.{◌≡◌, ◌++◌, take}
use Rattle.std.specs.Vec.{vec_capacity}
use Rattle.xdg_stream.proofs.starting.push_attrs.Given as goal

abbrev pub invariant-loop-attr : goal.invariant-loop-attr
invariant-loop-attr l = record {
  items : l.numbers.items ≡ l.fn.numbers.items ++ take l.attr-index l.attrs;
  room : vec_capacity l.numbers ≡ vec_capacity l.fn.numbers;
}

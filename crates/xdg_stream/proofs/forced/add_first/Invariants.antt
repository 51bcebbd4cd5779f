use Rattle.std.proofs.Common.{◌≡◌, length}
use Rattle.std.specs.Vec.{vec_capacity}
use Rattle.xdg_stream.specs.Runs.{Adds}
use Rattle.xdg_stream.proofs.forced.add_first.Given as goal

abbrev pub invariant-loop-at : goal.invariant-loop-at
invariant-loop-at l = record {
  adds : Adds l.store.now l.mark l.fn.marks.items l.fn.numbers.items l.marks.items l.numbers.items l.most l.added;
  here : l.at ≡ length l.numbers.items;
  rooms : (vec_capacity l.numbers ≡ vec_capacity l.fn.numbers) × (vec_capacity l.marks ≡ vec_capacity l.fn.marks);
}

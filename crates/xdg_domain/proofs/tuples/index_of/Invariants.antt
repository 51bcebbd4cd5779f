use Rattle.std.proofs.Common.{◌≡◌, ◌+◌, ◌*◌, drop}
use Rattle.xdg_domain.specs.Shapes.{product}
use Rattle.xdg_domain.specs.Sized.{sizes_of}
use Rattle.xdg_domain.specs.Tuples.{index, InRange}
use Rattle.xdg_domain.proofs.tuples.index_of.Given as goal

abbrev pub invariant-loop-i : goal.invariant-loop-i
invariant-loop-i l =
    InRange (sizes_of (drop l.i l.fields)) (drop l.i l.numbers)
    × (l.number * product (sizes_of (drop l.i l.fields)) + index (sizes_of (drop l.i l.fields)) (drop l.i l.numbers) ≡ index (sizes_of l.fields) l.numbers)

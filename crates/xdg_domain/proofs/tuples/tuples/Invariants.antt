use Rattle.std.proofs.Common.{◌≡◌, ◌≤◌, ◌*◌, ◌-◌, ◌^◌, min, drop}
use Rattle.xdg_domain.specs.Shapes.{product}
use Rattle.xdg_domain.specs.Sized.{sizes_of}
use Rattle.xdg_domain.proofs.tuples.tuples.Given as goal

abbrev pub invariant-loop-field : goal.invariant-loop-field
invariant-loop-field l = (l.product ≤ (2 ^ 64 - 1)) × (min (l.product * product (sizes_of (drop l.field-index l.fields))) (2 ^ 64 - 1) ≡ min (product (sizes_of l.fields)) (2 ^ 64 - 1))

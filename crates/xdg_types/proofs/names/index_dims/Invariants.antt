use Rattle.std.proofs.Common.{◌≡◌, map, take}
use Rattle.xdg_types.proofs.names.index_dims.Given as goal

abbrev pub invariant-loop-dim : goal.invariant-loop-dim
invariant-loop-dim l = l.all ≡ map (λ dim. dim.name) (take l.dim-index l.dims)

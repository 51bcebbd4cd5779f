use Rattle.std.proofs.Common.{◌≡◌, map, take}
use Rattle.xdg_classes.proofs.features.Features.new.Given as goal

abbrev pub invariant-loop-dim : goal.invariant-loop-dim
invariant-loop-dim l = l.names ≡ map (λ dim. dim.name) (take l.dim-index l.dims)

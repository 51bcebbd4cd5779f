use Rattle.std.proofs.Common.{◌≡◌, map, take}
use Rattle.xdg_principles.specs.Made.{built_found}
use Rattle.xdg_principles.specs.Uses.{told}
use Rattle.xdg_principles.proofs.building.build_all.Given as goal

abbrev pub invariant-loop-one : goal.invariant-loop-one
invariant-loop-one l = l.made ≡ map (built_found l.dims) (map told (take l.one-index l.uses))

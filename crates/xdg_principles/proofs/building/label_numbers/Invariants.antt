use Rattle.std.proofs.Common.{◌≡◌, map, take}
use Rattle.xdg_principles.specs.Made.{label_number}
use Rattle.xdg_principles.proofs.building.label_numbers.Given as goal

abbrev pub invariant-loop-name : goal.invariant-loop-name
invariant-loop-name l = l.made ≡ map (label_number l.labels) (take l.name-index l.names)

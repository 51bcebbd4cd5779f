use Rattle.std.proofs.Common.{◌≡◌, map, drop}
use Rattle.xdg_domain.specs.Shapes as shapes
use Rattle.xdg_domain.specs.Shapes.{shape, shapes_of}
use Rattle.xdg_names.specs.First.{first, earlier}
use Rattle.xdg_terms.specs.Faults as spec
use Rattle.xdg_terms.proofs.members.check_in_turn.Given as goal

abbrev pub invariant-loop-name : goal.invariant-loop-name
invariant-loop-name l =
    earlier l.found (first (spec.missing_in_turn (shapes.constants_of (shapes_of (map shape l.left))) (drop l.name-index l.names)))
    ≡ first (spec.missing_in_turn (shapes.constants_of (shapes_of (map shape l.types))) l.names)

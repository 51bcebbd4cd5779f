use Rattle.std.proofs.Common.{◌≡◌, drop, map}
use Rattle.xdg_domain.specs.Shapes.{shape, shapes_of}
use Rattle.std.specs.List.{flat_map}
use Rattle.xdg_names.specs.First.{first, earlier}
use Rattle.xdg_terms.specs.Faults as spec
use Rattle.xdg_terms.proofs.sets.check_each_bracket.Given as goal

abbrev pub invariant-loop-elem : goal.invariant-loop-elem
invariant-loop-elem l = earlier l.found (first (flat_map (spec.bracket_missing (shapes_of (map shape l.types))) (drop l.elem-index l.elems))) ≡ first (flat_map (spec.bracket_missing (shapes_of (map shape l.types))) l.elems)

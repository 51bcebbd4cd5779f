use Rattle.std.proofs.Common.{◌≡◌, drop, map}
use Rattle.xdg_domain.specs.Shapes as shapes
use Rattle.xdg_domain.specs.Shapes.{shape, shapes_of}
use Rattle.xdg_names.specs.Texts.{has_text}
use Rattle.xdg_terms.proofs.sets.is_in_a_row.Given as goal

abbrev pub invariant-loop-ty : goal.invariant-loop-ty
invariant-loop-ty l = has_text (shapes.in_a_row (shapes.constants_of (shapes_of (map shape (drop l.ty-index l.types))))) l.text ≡ has_text (shapes.in_a_row (shapes.constants_of (shapes_of (map shape l.types)))) l.text

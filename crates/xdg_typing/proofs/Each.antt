-- What the names of the types that a statement defines add to those of the others.
use Rattle.std.proofs.Common.{◌≡◌, List, ◌∷◌, ◌++◌, map, ap, ◌∙◌}
use Rattle.std.specs.List.{flat_map}
use Rattle.std.proofs.lemmas.List.{map-append}
use Rattle.std.proofs.lemmas.Grind.{flat_map-append}
use Rattle.xdg_types.specs.Parts.{Statement, dimension, dimensions, definitions_in, defined_names}
use Rattle.xdg_typing.specs.Listed.{defined_name}

pub each_definition : (statement : Statement) (more : List Statement) → defined_names (statement ∷ more) ≡ defined_name statement.kind ++ defined_names more
each_definition statement more =
    ap (map (λ d. d.name)) (flat_map-append (λ dim. definitions_in dim.1) (dimension statement.kind) (dimensions more))
    ∙ map-append (λ d. d.name) (flat_map (λ dim. definitions_in dim.1) (dimension statement.kind)) (flat_map (λ dim. definitions_in dim.1) (dimensions more))

-- Rows of types and of fields.
use Rattle.std.specs.Prelude.{ℕ, List, map}
use Rattle.xdg_domain.specs.declared.types.Ty.{Ty}
use Rattle.xdg_domain.specs.Shapes.{Shape, shape, shapes_of, sizes}

-- how many constants each of these domains has
abbrev pub sizes_of : List Ty → List ℕ
sizes_of types = sizes (shapes_of (map shape types))

-- a field's name with its type's tree
abbrev pub shape_of_field : List ℕ × Ty → List ℕ × Shape
shape_of_field field = (field.0, shape field.1)

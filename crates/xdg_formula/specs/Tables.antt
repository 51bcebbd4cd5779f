-- What rules ask of a table of types: its used dimensions, and in them labels, attributes and features.
use Rattle.std.specs.Prelude.{ℕ, List, [], ◌∷◌, get_or, map, Option, Some, None, if◌then◌else◌, bytes_eq}
use Rattle.xdg_domain.specs.declared.types.Ty.{Ty}
use Rattle.xdg_domain.specs.Shapes.{Shape, domain, tuple, set, iset}
use Rattle.xdg_types.specs.declared.table.DimType.{DimType}
use Rattle.xdg_types.specs.Table.{Table}

abbrev pub no_dim : DimType
no_dim = record { name = []; labels = []; attrs = []; fields = [] }

-- the dimensions with these places, in their order
abbrev pub dims_at : List DimType → List ℕ → List DimType
dims_at dims places = map (λ k. get_or dims k no_dim) places

-- the used dimensions, in the order of their uses
abbrev pub used_dims : Table → List DimType
used_dims table = dims_at table.dims table.used

-- the type of that name, of an attribute or a feature
abbrev pub type_named : List (List ℕ × Ty) → List ℕ → Option Ty
type_named [] name = None
type_named (one ∷ more) name = if bytes_eq one.0 name then Some one.1 else type_named more name

-- of what type a value is that a feature of a type may have, or may have as a member; features of other types have none
abbrev pub member_shape : Shape → Option Shape
member_shape (domain constants) = Some (domain constants)
member_shape (tuple domains) = Some (tuple domains)
member_shape (set member) = Some member
member_shape (iset member) = Some member
member_shape _ = None

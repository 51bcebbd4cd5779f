-- The table of a grammar's dimensions and types, and which table a grammar has.
use Rattle.std.specs.Prelude.{◌≡◌, ℕ, ◌<◌, ◌≤◌, List, [], ◌∷◌, length, map, slice_get, Option, None, Some, if◌then◌else◌, bytes_eq}
use Rattle.xdg_ast.specs.declared.names.Name.{Name}
use Rattle.xdg_domain.specs.Shapes.{Shape, fields, Fields, no_field, field_then, constants, count, shape, IsType, IsSmall}
use Rattle.xdg_domain.specs.declared.types.Ty.{Ty}
use Rattle.xdg_types.specs.declared.table.DimType.{DimType}
use Rattle.xdg_types.specs.Written.{tree}
use Rattle.xdg_types.specs.Parts.{TypeTerm, Statement, Dimension, dimensions, used_names, label_type, attrs_type, entry_type, in_parts}
use Rattle.xdg_types.specs.Meaning.{meaning, as_domain}
use Rattle.xdg_facts.specs.Membership.{In, Differ}

-- ---- what the table has

pub record Table : Type 0 where
  pub dims : List DimType
  pub used : List ℕ

-- names with the shapes of their types
abbrev pub Typed : Type 0
Typed = List (List ℕ × Shape)

abbrev pub typed : List (List ℕ × Ty) → Typed
typed all = map (λ one. (one.0, shape one.1)) all

abbrev pub typed_fields : Fields → Typed
typed_fields no_field = []
typed_fields (field_then name u fs) = (name, u) ∷ typed_fields fs

abbrev pub fields_in : Shape → Typed
fields_in (fields fs) = typed_fields fs
fields_in _ = []

-- what the first of these types means, or else the record without fields
abbrev pub first_meaning : (List ℕ → Shape) → List TypeTerm → Shape
first_meaning names [] = fields no_field
first_meaning names (type ∷ more) = meaning names (tree type.kind)

-- The dimension has the labels, attributes and features of its types. Without such a type it has none.
pub record IsDim (names : List ℕ → Shape) (dim : Dimension) (made : DimType) : Type 0 where
  pub name : made.name ≡ dim.0.text
  pub labels : made.labels ≡ constants (as_domain (first_meaning names (in_parts label_type dim.1)))
  pub attrs : typed made.attrs ≡ map (λ one. (one.0, as_domain one.1)) (fields_in (first_meaning names (in_parts attrs_type dim.1)))
  pub fields : typed made.fields ≡ fields_in (first_meaning names (in_parts entry_type dim.1))

abbrev pub AreDims : (List ℕ → Shape) → List Dimension → List DimType → Type 0
AreDims names [] [] = Unit {0}
AreDims names (dim ∷ dims) (one ∷ made) = IsDim names dim one × AreDims names dims made
AreDims names _ _ = ⊥

-- the places of the dimensions that are used, in the order of their uses
abbrev pub AreUsed : List DimType → List Name → List ℕ → Type 0
AreUsed dims [] [] = Unit {0}
AreUsed dims (name ∷ names) (k ∷ ks) = ((dim : DimType) × ((slice_get dims k ≡ Some dim) × (dim.name ≡ name.text))) × AreUsed dims names ks
AreUsed dims _ _ = ⊥

pub record IsTableOf (names : List ℕ → Shape) (statements : List Statement) (table : Table) : Type 0 where
  pub dims : AreDims names (dimensions statements) table.dims
  pub used : AreUsed table.dims (used_names statements) table.used

-- ---- what the table keeps

abbrev pub firsts : {A : Type 0} → List (List ℕ × A) → List (List ℕ)
firsts all = map (λ one. one.0) all

-- an attribute's type is a domain or a tuple type, with a value
abbrev pub AreAttributes : Typed → Type 0
AreAttributes [] = Unit {0}
AreAttributes (one ∷ more) = (IsSmall one.1 × (0 < count one.1)) × AreAttributes more

abbrev pub AreFeatures : Typed → Type 0
AreFeatures [] = Unit {0}
AreFeatures (one ∷ more) = IsType one.1 × AreFeatures more

pub record KeepsDim (dim : DimType) : Type 0 where
  pub labels : Differ dim.labels
  pub few_labels : length dim.labels ≤ 32
  pub attrs : Differ (firsts dim.attrs)
  pub few_attrs : length dim.attrs ≤ 8
  pub attributes : AreAttributes (typed dim.attrs)
  pub fields : Differ (firsts dim.fields)
  pub features : AreFeatures (typed dim.fields)

abbrev pub KeepDims : List DimType → Type 0
KeepDims [] = Unit {0}
KeepDims (dim ∷ dims) = KeepsDim dim × KeepDims dims

-- places of dimensions, all different
abbrev pub ArePlaces : ℕ → List ℕ → Type 0
ArePlaces bound [] = Unit {0}
ArePlaces bound (k ∷ ks) = ((k < bound) × (In ks k → ⊥)) × ArePlaces bound ks

-- names that differ, types as grammars may have them, and counts within the limits
pub record IsTable (table : Table) : Type 0 where
  pub names : Differ (map (λ dim. dim.name) table.dims)
  pub dims : KeepDims table.dims
  pub used : ArePlaces (length table.dims) table.used
  pub few_used : length table.used ≤ 8

-- the first dimension with that name
abbrev pub dim_named : List DimType → List ℕ → Option DimType
dim_named [] name = None
dim_named (d ∷ ds) name = if bytes_eq d.name name then Some d else dim_named ds name

-- The parameters that stand in a body, each with a type that is wanted of it, as a list, in the order in which the code comes
-- to them, where it is known which types features have and which types are wanted of the parameters of other classes.
use Rattle.std.specs.Prelude.{ℕ, List, [], ◌++◌, flat_map, slice_get, Option, None, Some}
use Rattle.std.specs.Borrow.{Bor}
use Rattle.xdg_ast.specs.declared.names.Pair.{Pair}
use Rattle.xdg_names.specs.Texts.{place_of}
use Rattle.xdg_domain.specs.declared.types.Ty.{Ty}
use Rattle.xdg_domain.specs.Shapes.{Shape, shape}
use Rattle.xdg_terms.specs.Wanted.{Want, params_in}
use Rattle.xdg_types.specs.declared.table.DimType.{DimType}
use Rattle.xdg_classes.specs.Bodies.{Term, Body, Said, Called, records, calls}
use Rattle.xdg_classes.specs.declared.features.Features.{Features}
use Rattle.xdg_classes.specs.Wants.{feature_in}

-- the shape of a lent type
abbrev pub shape_of : Option (Bor Ty) → Option Shape
shape_of None = None
shape_of (Some ty) = Some (shape ty.now)

abbrev pub dim_at : List DimType → Option ℕ → Option DimType
dim_at dims None = None
dim_at dims (Some at) = slice_get dims at

-- the type of a feature of a dimension
abbrev pub feature_of : Features → List ℕ → List ℕ → Option Shape
feature_of known dim name = feature_in (dim_at known.dims.now (place_of known.names dim)) name

-- ---- the parameters in a body

abbrev pub wants_at : Option Shape → List (List ℕ) → Term → List Want
wants_at None free t = []
wants_at (Some s) free t = params_in free s t

-- in what is said of a feature of a dimension
abbrev pub pair_wants : (List ℕ → List ℕ → Option Shape) → List (List ℕ) → List ℕ → Pair Term → List Want
pair_wants look free dim pair = wants_at (look dim pair.key.text) free pair.value

abbrev pub record_wants : (List ℕ → List ℕ → Option Shape) → List (List ℕ) → Said → List Want
record_wants look free said = flat_map (pair_wants look free said.dim.text) said.pairs

-- in a term at each of these types
abbrev pub type_wants : List (List ℕ) → Term → List Shape → List Want
type_wants free t types = flat_map (λ s. params_in free s t) types

-- in an argument
abbrev pub arg_wants : (List ℕ → List Shape) → List (List ℕ) → Pair Term → List Want
arg_wants get free pair = type_wants free pair.value (get pair.key.text)

abbrev pub call_wants : (List ℕ → List ℕ → List Shape) → List (List ℕ) → Called → List Want
call_wants tell free call = flat_map (arg_wants (tell call.name.text) free) call.args

abbrev pub body_wants : (List ℕ → List ℕ → Option Shape) → (List ℕ → List ℕ → List Shape) → List (List ℕ) → Body → List Want
body_wants look tell free b = flat_map (record_wants look free) (records b) ++ flat_map (call_wants tell free) (calls b)

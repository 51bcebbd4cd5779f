-- Partial entries: what is said of the features of each dimension.
use Rattle.std.specs.Prelude.{◌≡◌, ℕ, List, [], ◌∷◌, length, map, get_or, slice_get, Some}
use Rattle.xdg_ast.specs.declared.names.Name.{Name}
use Rattle.xdg_domain.specs.Joined.{fields_in}
use Rattle.xdg_domain.specs.Joins.{SaysBoth, JoinsField, OnSome, ClashesField}
use Rattle.xdg_domain.specs.Shapes.{Fields}
use Rattle.xdg_domain.specs.Valencies.{said_at, KeysRise}
use Rattle.xdg_domain.specs.Values.{EachSaid, IsFieldOf}
use Rattle.xdg_domain.specs.declared.values.Value.{Value}
use Rattle.xdg_terms.specs.Forms.{Bindings}
use Rattle.xdg_terms.specs.Means.{MeansField}
use Rattle.xdg_types.specs.declared.table.DimType.{DimType}
use Rattle.xdg_classes.specs.Bodies.{Term, Pairs}

-- what is said of the features of a dimension: values, each with the place of its feature
abbrev pub Record : Type 0
Record = List (ℕ × Value)

-- a record for each dimension of the grammar, in the order of the text
abbrev pub Partial : Type 0
Partial = List Record

abbrev pub features : DimType → Fields
features dim = fields_in dim.fields

-- the dimension with that place
abbrev pub IsDim : List DimType → ℕ → DimType → Type 0
IsDim dims k dim = slice_get dims k ≡ Some dim

-- what is said of the dimension with that place
abbrev pub said_of : Partial → ℕ → Record
said_of p k = get_or p k []

-- ---- partial entries of a table

-- values of the features, whose places rise
abbrev pub IsRecord : Fields → Record → Type 0
IsRecord fs m = KeysRise 0 m × EachSaid (IsFieldOf fs) m

-- a record for each of these dimensions
pub record IsPartial (dims : List DimType) (p : Partial) : Type 0 where
  pub count : length p ≡ length dims
  pub each : (k : ℕ) (dim : DimType) → IsDim dims k dim → IsRecord (features dim) (said_of p k)

abbrev pub ArePartial : List DimType → List Partial → Type 0
ArePartial dims [] = Unit {0}
ArePartial dims (p ∷ ps) = IsPartial dims p × ArePartial dims ps

-- nothing is said of any dimension
abbrev pub nothing : List DimType → Partial
nothing dims = map (λ dim. []) dims

-- ---- what two say together

-- c says of each dimension what a and b say together
pub record PartialsJoin (dims : List DimType) (a b c : Partial) : Type 0 where
  pub count : length c ≡ length dims
  pub each : (k : ℕ) (dim : DimType) → IsDim dims k dim → SaysBoth (JoinsField (features dim)) (said_of a k) (said_of b k) (said_of c k)

-- of some feature of some dimension a and b say what can't hold together
pub record PartialsClash (dims : List DimType) (a b : Partial) : Type 0 where
  pub at : ℕ
  pub dim : DimType
  pub is : IsDim dims at dim
  pub clash : OnSome (ClashesField (features dim)) (said_of a at) (said_of b at)

-- ---- what is written

-- the keys with their terms
abbrev pub written : Pairs → List (Name × Term)
written pairs = map (λ pair. (pair.key, pair.value)) pairs

-- of each feature that is written what its term means under the bindings, and nothing of the others
abbrev pub SaysFields : Bindings → Fields → Pairs → Record → Type 0
SaysFields bs fs pairs m = KeysRise 0 m × ((key : ℕ) → MeansField bs fs (written pairs) key (said_at m key))

-- of the dimension with that name what is written, and nothing of the others
pub record SaysRecord (dims : List DimType) (bs : Bindings) (name : List ℕ) (pairs : Pairs) (p : Partial) : Type 0 where
  pub count : length p ≡ length dims
  pub said : (k : ℕ) (dim : DimType) → IsDim dims k dim → dim.name ≡ name → SaysFields bs (features dim) pairs (said_of p k)
  pub unsaid : (k : ℕ) (dim : DimType) → IsDim dims k dim → (dim.name ≡ name → ⊥) → said_of p k ≡ []

-- what is read of one dimension, as a record of its features
pub record ReadsDim (dim : DimType) (bs : Bindings) (name : List ℕ) (pairs : Pairs) (m : Record) : Type 0 where
  pub said : dim.name ≡ name → SaysFields bs (features dim) pairs m
  pub unsaid : (dim.name ≡ name → ⊥) → m ≡ []
  pub right : IsRecord (features dim) m

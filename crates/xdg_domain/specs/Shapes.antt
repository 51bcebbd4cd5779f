-- The types of a grammar as trees: which of them there are, and how many values they have.
use Rattle.std.specs.Prelude.{◌≡◌, ℕ, ◌≤◌, ◌*◌, List, [], ◌∷◌, ◌++◌, length}
use Rattle.xdg_domain.specs.declared.types.Ty.{Ty}
use Rattle.xdg_domain.specs.declared.types.Ty.TheOpen.{Ty-F}
use Rattle.xdg_domain.specs.declared.types.Ty.TheFolds.{fold-Ty}
use Rattle.xdg_facts.specs.Membership.{Differ}

mutual
  pub data Shape : Type 0 where
    -- these constants
    domain : List (List ℕ) → Shape
    -- a constant of each of these domains
    tuple : Shapes → Shape
    truth : Shape
    integer : Shape
    text : Shape
    -- sets that are joined by union, of a domain or of tuples
    set : Shape → Shape
    -- and by intersection
    iset : Shape → Shape
    card : Shape
    -- a cardinality for each constant of a domain
    valency : Shape → Shape
    -- a value of the second type for each constant of the first
    mapping : Shape → Shape → Shape
    -- a value for each field
    fields : Fields → Shape

  pub data Shapes : Type 0 where
    no_shape : Shapes
    shape_then : Shape → Shapes → Shapes

  -- the fields of a record, with their names
  pub data Fields : Type 0 where
    no_field : Fields
    field_then : List ℕ → Shape → Fields → Fields

abbrev pub shapes_of : List Shape → Shapes
shapes_of [] = no_shape
shapes_of (s ∷ ss) = shape_then s (shapes_of ss)

abbrev pub fields_of : List (List ℕ × Shape) → Fields
fields_of [] = no_field
fields_of (f ∷ fs) = field_then f.0 f.1 (fields_of fs)

abbrev pub layer : Ty-F Shape → Shape
layer (Ty-F.Domain constants) = domain constants
layer (Ty-F.Tuple types) = tuple (shapes_of types)
layer Ty-F.Bool = truth
layer Ty-F.Int = integer
layer Ty-F.Str = text
layer (Ty-F.Set type) = set type
layer (Ty-F.ISet type) = iset type
layer Ty-F.Card = card
layer (Ty-F.Valency key) = valency key
layer (Ty-F.Map key value) = mapping key value
layer (Ty-F.Rec all) = fields (fields_of all)

-- the shape of a type
abbrev pub shape : Ty → Shape
shape = fold-Ty Shape layer

-- ---- constants and tuples

-- the constants of a domain
abbrev pub constants : Shape → List (List ℕ)
constants (domain cs) = cs
constants _ = []

-- of each of these domains
abbrev pub constants_of : Shapes → List (List (List ℕ))
constants_of no_shape = []
constants_of (shape_then s ss) = constants s ∷ constants_of ss

-- all of them in a row
abbrev pub in_a_row : {A : Type 0} → List (List A) → List A
in_a_row [] = []
in_a_row (xs ∷ more) = xs ++ in_a_row more

-- how many constants each of these domains has
abbrev pub sizes : Shapes → List ℕ
sizes no_shape = []
sizes (shape_then s ss) = length (constants s) ∷ sizes ss

-- how many constants each field of a tuple type has
abbrev pub sizes_in : Shape → List ℕ
sizes_in (tuple ss) = sizes ss
sizes_in _ = []

unfoldable pub product : List ℕ → ℕ
product [] = 1
product (n ∷ ns) = n * product ns

-- how many constants or tuples there are
abbrev pub count : Shape → ℕ
count (domain cs) = length cs
count (tuple ss) = product (sizes ss)
count _ = 0

-- ---- types

-- a domain has at most 64 constants, all different
abbrev pub IsDomain : Shape → Type 0
IsDomain (domain cs) = (length cs ≤ 64) × Differ cs
IsDomain _ = ⊥

abbrev pub AreDomains : Shapes → Type 0
AreDomains no_shape = Unit {0}
AreDomains (shape_then s ss) = IsDomain s × AreDomains ss

-- a tuple type has one or more fields, all of them domains, which have no constant in common, and at most 1,024 tuples
pub record IsTuple (ss : Shapes) : Type 0 where
  pub some : ss ≡ no_shape → ⊥
  pub domains : AreDomains ss
  pub apart : Differ (in_a_row (constants_of ss))
  pub few : product (sizes ss) ≤ 1024

abbrev pub IsTupleType : Shape → Type 0
IsTupleType (tuple ss) = IsTuple ss
IsTupleType _ = ⊥

-- what sets are made of
abbrev pub IsSmall : Shape → Type 0
IsSmall (domain cs) = IsDomain (domain cs)
IsSmall (tuple ss) = IsTuple ss
IsSmall _ = ⊥

-- what the values of a map may be
abbrev pub IsMapped : Shape → Type 0
IsMapped (set s) = Unit {0}
IsMapped (iset s) = Unit {0}
IsMapped card = Unit {0}
IsMapped (valency k) = Unit {0}
IsMapped (mapping k u) = Unit {0}
IsMapped _ = ⊥

abbrev pub names_of : Fields → List (List ℕ)
names_of no_field = []
names_of (field_then name u fs) = name ∷ names_of fs

-- the types that a grammar may have
abbrev mutual
  pub IsType : Shape → Type 0
  IsType (domain cs) = IsDomain (domain cs)
  IsType (tuple ss) = IsTuple ss
  IsType truth = Unit {0}
  IsType integer = Unit {0}
  IsType text = Unit {0}
  IsType (set s) = IsSmall s
  IsType (iset s) = IsSmall s
  IsType card = Unit {0}
  IsType (valency k) = IsDomain k
  IsType (mapping k u) = IsDomain k × (IsMapped u × IsType u)
  IsType (fields fs) = Differ (names_of fs) × AreTypes fs

  pub AreTypes : Fields → Type 0
  AreTypes no_field = Unit {0}
  AreTypes (field_then name u fs) = IsType u × AreTypes fs

-- What a feature holds of which nothing is said.
use Rattle.std.specs.Prelude.{◌⊎◌, ℕ, ◌<◌, ◌+◌, ◌*◌, true, List, [], ◌∷◌, map, Option, None, Some, MatchOption}
use Rattle.std.specs.List.{range_with_len}
use Rattle.xdg_domain.specs.Cards.{cards}
use Rattle.xdg_domain.specs.Valencies.{said_at}
use Rattle.xdg_domain.specs.Shapes.{Shape, domain, tuple, truth, integer, text, set, iset, card, valency, mapping, fields, Fields, no_field, field_then, count}
use Rattle.xdg_domain.specs.declared.values.Value.{Value, out-Value}
use Rattle.xdg_domain.specs.declared.values.Value.TheOpen.{Value-F}
use Rattle.xdg_domain.specs.declared.values.Value.TheVariants as v

-- the same of each key below the bound
abbrev pub for_each_key : {V : Type 0} → ℕ → V → List (ℕ × V)
for_each_key bound x = map (λ key. (key, x)) (range_with_len 0 bound)

abbrev pub map_of_default : ℕ → Option Value → Option Value
map_of_default bound None = None
map_of_default bound (Some x) = Some (v.Map (for_each_key bound x))

abbrev pub record_of_defaults : Option (List (ℕ × Value)) → Option Value
record_of_defaults None = None
record_of_defaults (Some all) = Some (v.Rec all)

abbrev pub field_and_defaults : ℕ → Option Value → Option (List (ℕ × Value)) → Option (List (ℕ × Value))
field_and_defaults place (Some x) (Some all) = Some ((place, x) ∷ all)
field_and_defaults place _ _ = None

-- The default of a type: the empty set, the full set, all numbers, {0} for each key, the default of the values for each
-- key, the defaults of the fields. The other types are plain and have none.
abbrev mutual
  pub default : Shape → Option Value
  default (set s) = Some (v.Set [])
  default (iset s) = Some (v.Set (range_with_len 0 (count s)))
  default card = Some (v.Card (cards (λ _. true)))
  default (valency k) = Some (v.Valency (for_each_key (count k) (0 ∷ [])))
  default (mapping k u) = map_of_default (count k) (default u)
  default (fields fs) = record_of_defaults (defaults 0 fs)
  default _ = None

  -- of these fields, the first of which has that place
  pub defaults : ℕ → Fields → Option (List (ℕ × Value))
  defaults place no_field = Some []
  defaults place (field_then name u fs) = field_and_defaults place (default u) (defaults (place + 1) fs)

-- The type is plain, or a record with a plain field at any depth.
abbrev mutual
  pub HasPlain : Shape → Type 0
  HasPlain (domain cs) = Unit {0}
  HasPlain (tuple ss) = Unit {0}
  HasPlain truth = Unit {0}
  HasPlain integer = Unit {0}
  HasPlain text = Unit {0}
  HasPlain (fields fs) = SomeHasPlain fs
  HasPlain _ = ⊥

  pub SomeHasPlain : Fields → Type 0
  SomeHasPlain no_field = ⊥
  SomeHasPlain (field_then name u fs) = HasPlain u ⊎ SomeHasPlain fs

-- How many parts the default has: itself, and those of what it holds.
abbrev mutual
  pub weight : Shape → ℕ
  weight (iset s) = 1 + count s
  weight (valency k) = 1 + count k
  weight (mapping k u) = 1 + count k * weight u
  weight (fields fs) = 1 + weights fs
  weight _ = 1

  pub weights : Fields → ℕ
  weights no_field = 0
  weights (field_then name u fs) = weight u + weights fs

-- how many parts a default may have
abbrev pub most_parts : ℕ
most_parts = 16777216

-- The value says something of each key below the count of a valency or a map, and of each field of a record, at any depth.
abbrev mutual
  pub IsFilledIn : Shape → Value-F Value → Type 0
  IsFilledIn (valency k) (Value-F.Valency m) = (key : ℕ) → key < count k → MatchOption (said_at m key) ⊥ (λ ns. Unit {0})
  IsFilledIn (valency k) _ = ⊥
  IsFilledIn (mapping k u) (Value-F.Map m) = (key : ℕ) → key < count k → MatchOption (said_at m key) ⊥ (λ v. IsFilledIn u (out-Value v))
  IsFilledIn (mapping k u) _ = ⊥
  IsFilledIn (fields fs) (Value-F.Rec m) = AreFilled 0 fs m
  IsFilledIn (fields fs) _ = ⊥
  IsFilledIn _ _ = Unit {0}

  -- of these fields, the first of which has that place
  pub AreFilled : ℕ → Fields → List (ℕ × Value) → Type 0
  AreFilled place no_field m = Unit {0}
  AreFilled place (field_then name u fs) m = MatchOption (said_at m place) ⊥ (λ v. IsFilledIn u (out-Value v)) × AreFilled (place + 1) fs m

abbrev pub IsFilled : Shape → Value → Type 0
IsFilled s v = IsFilledIn s (out-Value v)

-- What a feature holds once all defaults are filled in.
use Rattle.std.specs.Prelude.{◌⊎◌, ℕ, ◌+◌, List, [], ◌∷◌, map, Option, None, Some}
use Rattle.std.specs.List.{range_with_len}
use Rattle.xdg_domain.specs.Valencies.{said_at}
use Rattle.xdg_domain.specs.Shapes.{Shape, domain, tuple, truth, integer, text, valency, mapping, fields, Fields, no_field, field_then, count}
use Rattle.xdg_domain.specs.Values.{IsValue}
use Rattle.xdg_domain.specs.Defaults.{default, field_and_defaults, record_of_defaults}
use Rattle.xdg_domain.specs.declared.values.Value.{Value, out-Value}
use Rattle.xdg_domain.specs.declared.values.Value.TheOpen.{Value-F}
use Rattle.xdg_domain.specs.declared.values.Value.TheVariants as v
use Rattle.xdg_domain.specs.Joined.{of_map}

-- ---- what is said of keys and fields

abbrev pub cards_in : Value-F Value → List (ℕ × List ℕ)
cards_in (Value-F.Valency m) = m
cards_in _ = []

abbrev pub cards_said : Option Value → List (ℕ × List ℕ)
cards_said None = []
cards_said (Some x) = cards_in (out-Value x)

abbrev pub keys_in : Value-F Value → List (ℕ × Value)
keys_in (Value-F.Map m) = m
keys_in _ = []

abbrev pub keys_said : Option Value → List (ℕ × Value)
keys_said None = []
keys_said (Some x) = keys_in (out-Value x)

abbrev pub fields_in : Value-F Value → List (ℕ × Value)
fields_in (Value-F.Rec m) = m
fields_in _ = []

abbrev pub fields_said : Option Value → List (ℕ × Value)
fields_said None = []
fields_said (Some x) = fields_in (out-Value x)

-- ---- filled values

-- what is said of a key, or the number 0 alone
abbrev pub or_zero : Option (List ℕ) → List ℕ
or_zero None = 0 ∷ []
or_zero (Some ns) = ns

-- f of each of these keys, where it gives something for each
abbrev pub each_key : (ℕ → Option Value) → List ℕ → Option (List (ℕ × Value))
each_key f [] = Some []
each_key f (key ∷ keys) = field_and_defaults key (f key) (each_key f keys)

-- for each key below the bound what is said of it, or the number 0 alone
abbrev pub filled_cards : ℕ → List (ℕ × List ℕ) → List (ℕ × List ℕ)
filled_cards bound m = map (λ key. (key, or_zero (said_at m key))) (range_with_len 0 bound)

-- what is said, or the default
abbrev pub or_default : Shape → Option Value → Option Value
or_default s None = default s
or_default s (Some x) = Some x

-- What holds of a feature of which this is said: of each key of a valency what is said of it, or {0}; of each key of a map
-- and each field of a record what is said of it, filled in turn; of every other type what is said, or the default. None
-- where nothing is said of a plain type, at any depth of records.
abbrev mutual
  pub filled : Shape → Option Value → Option Value
  filled (valency k) said = Some (v.Valency (filled_cards (count k) (cards_said said)))
  filled (mapping k u) said = of_map (each_key (λ key. filled u (said_at (keys_said said) key)) (range_with_len 0 (count k)))
  filled (fields fs) said = record_of_defaults (filled_fields 0 fs (fields_said said))
  filled s said = or_default s said

  -- of these fields, the first of which has that place
  pub filled_fields : ℕ → Fields → List (ℕ × Value) → Option (List (ℕ × Value))
  filled_fields place no_field m = Some []
  filled_fields place (field_then name u fs) m = field_and_defaults place (filled u (said_at m place)) (filled_fields (place + 1) fs m)

-- ---- what lacks

abbrev pub IsUnsaid : Option Value → Type 0
IsUnsaid None = Unit {0}
IsUnsaid (Some x) = ⊥

-- Nothing is said of a plain type, or of a plain field of a record, at any depth.
abbrev mutual
  pub Lacks : Shape → Option Value → Type 0
  Lacks (domain cs) said = IsUnsaid said
  Lacks (tuple ss) said = IsUnsaid said
  Lacks truth said = IsUnsaid said
  Lacks integer said = IsUnsaid said
  Lacks text said = IsUnsaid said
  Lacks (fields fs) said = SomeLacks 0 fs (fields_said said)
  Lacks s said = ⊥

  pub SomeLacks : ℕ → Fields → List (ℕ × Value) → Type 0
  SomeLacks place no_field m = ⊥
  SomeLacks place (field_then name u fs) m = Lacks u (said_at m place) ⊎ SomeLacks (place + 1) fs m

-- ---- what is right

-- what is said, if anything is, is a value of the type
abbrev pub IsSaid : Shape → Option Value → Type 0
IsSaid s None = Unit {0}
IsSaid s (Some x) = IsValue s x

-- what is said of any key is a value of the type
abbrev pub AreValuesOf : Shape → List (ℕ × Value) → Type 0
AreValuesOf s m = (key : ℕ) → IsSaid s (said_at m key)

-- what is said of any of these fields, the first of which has that place, is a value of its type
abbrev pub AreSaid : ℕ → Fields → List (ℕ × Value) → Type 0
AreSaid place no_field m = Unit {0}
AreSaid place (field_then name u fs) m = IsSaid u (said_at m place) × AreSaid (place + 1) fs m

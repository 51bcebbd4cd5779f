-- Which values a type has.
use Rattle.std.specs.Prelude.{ℕ, zero, suc, ◌<◌, ◌^◌, List, [], ◌∷◌, length}
use Rattle.std.specs.List.Sorted.{IsStrictlyIncreasing}
use Rattle.xdg_domain.specs.Cards.{IsCards}
use Rattle.xdg_domain.specs.Valencies.{KeysRise}
use Rattle.xdg_domain.specs.Shapes.{Shape, domain, tuple, truth, integer, text, set, iset, card, valency, mapping, fields, Fields, no_field, field_then, count, sizes, product}
use Rattle.xdg_domain.specs.declared.values.Value.{Value, out-Value}
use Rattle.xdg_domain.specs.declared.values.Value.TheOpen.{Value-F}

-- each number is below the bound
abbrev pub AllBelow : ℕ → List ℕ → Type 0
AllBelow bound [] = Unit {0}
AllBelow bound (n ∷ ns) = (n < bound) × AllBelow bound ns

-- what is said of each key is right for it
abbrev pub EachSaid : {V : Type 0} → (ℕ → V → Type 0) → List (ℕ × V) → Type 0
EachSaid P [] = Unit {0}
EachSaid P (entry ∷ s) = P entry.0 entry.1 × EachSaid P s

-- The value is one of the type: its numbers are in range, and keys and members rise. What it does not say of a key or a
-- field stays open.
abbrev mutual
  pub IsIn : Shape → Value-F Value → Type 0
  IsIn (domain cs) (Value-F.Const n) = n < length cs
  IsIn (tuple ss) (Value-F.Tuple n) = n < product (sizes ss)
  IsIn truth (Value-F.Bool b) = Unit {0}
  IsIn integer (Value-F.Int n) = n < 2 ^ 32
  IsIn text (Value-F.Str t) = Unit {0}
  IsIn (set s) (Value-F.Set ns) = IsStrictlyIncreasing ns × AllBelow (count s) ns
  IsIn (iset s) (Value-F.Set ns) = IsStrictlyIncreasing ns × AllBelow (count s) ns
  IsIn card (Value-F.Card ns) = IsCards ns
  IsIn (valency k) (Value-F.Valency m) = KeysRise 0 m × EachSaid (λ key ns. (key < count k) × IsCards ns) m
  IsIn (mapping k u) (Value-F.Map m) = KeysRise 0 m × EachSaid (λ key v. (key < count k) × IsIn u (out-Value v)) m
  IsIn (fields fs) (Value-F.Rec m) = KeysRise 0 m × EachSaid (IsFieldOf fs) m
  IsIn _ _ = ⊥

  -- a value of the field with that place
  pub IsFieldOf : Fields → ℕ → Value → Type 0
  IsFieldOf no_field k v = ⊥
  IsFieldOf (field_then name u fs) zero v = IsIn u (out-Value v)
  IsFieldOf (field_then name u fs) (suc k) v = IsFieldOf fs k v

abbrev pub IsValue : Shape → Value → Type 0
IsValue s v = IsIn s (out-Value v)

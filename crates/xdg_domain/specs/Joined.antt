-- What two values of a type say together, as a function of them.
use Rattle.std.specs.Prelude.{ℕ, zero, suc, ◌+◌, Bool, true, false, ◌||◌, ◌&&◌, nat_lt, nat_eq, List, [], ◌∷◌, ◌++◌, Option, None, Some, MatchOption}
use Rattle.xdg_domain.specs.Cards.{common}
use Rattle.xdg_domain.specs.Joins.{Joins, Clashes}
use Rattle.xdg_domain.specs.declared.types.Ty.{Ty}
use Rattle.xdg_domain.specs.Shapes.{Shape, shape, domain, tuple, truth, integer, text, set, iset, card, valency, mapping, fields, Fields, no_field, field_then}
use Rattle.xdg_domain.specs.declared.values.Value.{Value, out-Value}
use Rattle.xdg_domain.specs.declared.values.Value.TheVariants as v
use Rattle.xdg_domain.specs.declared.values.Value.TheOpen.{Value-F}
use Rattle.xdg_facts.specs.Rises.{has, numbers_below}

-- ---- numbers

-- a number above all of the list
abbrev pub above : List ℕ → ℕ
above [] = 0
above (n ∷ ns) = (n + 1) + above ns

-- the rising list of the numbers of either
abbrev pub either : List ℕ → List ℕ → List ℕ
either a b = numbers_below (above a + above b) (λ n. has a n || has b n)

-- the rising list of the numbers of both
abbrev pub both : List ℕ → List ℕ → List ℕ
both a b = numbers_below (above a) (λ n. has a n && has b n)

-- the list, where some number stands in it
abbrev pub where_some : List ℕ → Option (List ℕ)
where_some [] = None
where_some (n ∷ ns) = Some (n ∷ ns)

-- the numbers that both allow, where there is one
abbrev pub allowed : List ℕ → List ℕ → Option (List ℕ)
allowed a b = where_some (common a b)

-- ---- key by key

-- a list behind what stands before it
abbrev pub behind : {A : Type 0} → List A → Option (List A) → Option (List A)
behind made None = None
behind made (Some rest) = Some (made ++ rest)

abbrev pub behind_joined : {V : Type 0} → ℕ → Option V → Option (List (ℕ × V)) → Option (List (ℕ × V))
behind_joined key None rest = None
behind_joined key (Some z) rest = behind ((key, z) ∷ []) rest

-- The list with the entry x before a, and another list, in the order of their keys; `rest` is what puts a and a list
-- together.
abbrev pub merged_from : {V : Type 0} → (ℕ → V → V → Option V) → ℕ × V → List (ℕ × V) → (List (ℕ × V) → Option (List (ℕ × V))) → List (ℕ × V)
    → Option (List (ℕ × V))
merged_from f x a rest [] = Some (x ∷ a)
merged_from f x a rest (y ∷ b) = elim (nat_lt x.0 y.0) [
  | true ↦ behind (x ∷ []) (rest (y ∷ b))
  | false ↦ elim (nat_lt y.0 x.0) [
    | true ↦ behind (y ∷ []) (merged_from f x a rest b)
    | false ↦ behind_joined x.0 (f x.0 x.1 y.1) (rest b)
  ]
]

-- Two lists with rising keys put together, with what f makes of what both say of a key; None where f makes nothing of
-- some key.
abbrev pub merged : {V : Type 0} → (ℕ → V → V → Option V) → List (ℕ × V) → List (ℕ × V) → Option (List (ℕ × V))
merged f [] b = Some b
merged f (x ∷ a) b = merged_from f x a (merged f a) b

-- ---- values

-- the value, where the two are the same
abbrev pub same_number : (ℕ → Value) → ℕ → ℕ → Option Value
same_number make a b = elim (nat_eq a b) [ true ↦ Some (make a) | false ↦ None ]

abbrev pub same_bool : Bool → Bool → Option Value
same_bool true true = Some (v.Bool true)
same_bool false false = Some (v.Bool false)
same_bool _ _ = None

abbrev pub same_list : List ℕ → List ℕ → Bool
same_list [] [] = true
same_list (a ∷ more) (b ∷ others) = nat_eq a b && same_list more others
same_list _ _ = false

abbrev pub same_text : List ℕ → List ℕ → Option Value
same_text a b = elim (same_list a b) [ true ↦ Some (v.Str a) | false ↦ None ]

abbrev pub of_card : Option (List ℕ) → Option Value
of_card None = None
of_card (Some ns) = Some (v.Card ns)

abbrev pub of_valency : Option (List (ℕ × List ℕ)) → Option Value
of_valency None = None
of_valency (Some m) = Some (v.Valency m)

abbrev pub of_map : Option (List (ℕ × Value)) → Option Value
of_map None = None
of_map (Some m) = Some (v.Map m)

abbrev pub of_record : Option (List (ℕ × Value)) → Option Value
of_record None = None
of_record (Some m) = Some (v.Rec m)

abbrev mutual
  pub joined_in : Shape → Value-F Value → Value-F Value → Option Value
  joined_in (domain cs) (Value-F.Const a) (Value-F.Const b) = same_number v.Const a b
  joined_in (tuple ss) (Value-F.Tuple a) (Value-F.Tuple b) = same_number v.Tuple a b
  joined_in truth (Value-F.Bool a) (Value-F.Bool b) = same_bool a b
  joined_in integer (Value-F.Int a) (Value-F.Int b) = same_number v.Int a b
  joined_in text (Value-F.Str a) (Value-F.Str b) = same_text a b
  joined_in (set s) (Value-F.Set a) (Value-F.Set b) = Some (v.Set (either a b))
  joined_in (iset s) (Value-F.Set a) (Value-F.Set b) = Some (v.Set (both a b))
  joined_in card (Value-F.Card a) (Value-F.Card b) = of_card (allowed a b)
  joined_in (valency k) (Value-F.Valency a) (Value-F.Valency b) = of_valency (merged (λ key. allowed) a b)
  joined_in (mapping k u) (Value-F.Map a) (Value-F.Map b) = of_map (merged (λ key x y. joined_in u (out-Value x) (out-Value y)) a b)
  joined_in (fields fs) (Value-F.Rec a) (Value-F.Rec b) = of_record (merged (joined_field fs) a b)
  joined_in _ _ _ = None

  -- the same of the field with that place
  pub joined_field : Fields → ℕ → Value → Value → Option Value
  joined_field no_field k x y = None
  joined_field (field_then name u fs) zero x y = joined_in u (out-Value x) (out-Value y)
  joined_field (field_then name u fs) (suc k) x y = joined_field fs k x y

-- the fields of a record type
abbrev pub fields_in : List (List ℕ × Ty) → Fields
fields_in [] = no_field
fields_in (f ∷ fs) = field_then f.0 (shape f.1) (fields_in fs)

-- what two values of the type say together, where they don't clash
abbrev pub joined : Shape → Value → Value → Option Value
joined s x y = joined_in s (out-Value x) (out-Value y)

-- what an answer tells of two values of the type
abbrev pub TellsJoin : Shape → Value → Value → Option Value → Type 0
TellsJoin s x y told = MatchOption told (Clashes s x y) (λ z. Joins s x y z)

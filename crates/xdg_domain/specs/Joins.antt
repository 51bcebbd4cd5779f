-- What two values of a type say together.
use Rattle.std.specs.Prelude.{◌≡◌, ◌⊎◌, ℕ, zero, suc, ◌&&◌, ◌||◌, false, List, Option, None, Some}
use Rattle.std.specs.List.Sorted.{IsStrictlyIncreasing}
use Rattle.xdg_domain.specs.Cards.{IsCards}
use Rattle.xdg_domain.specs.Valencies.{said_at, KeysRise}
use Rattle.xdg_domain.specs.Shapes.{Shape, domain, tuple, truth, integer, text, set, iset, card, valency, mapping, fields, Fields, no_field, field_then}
use Rattle.xdg_domain.specs.Values.{IsValue}
use Rattle.xdg_domain.specs.declared.values.Value.{Value, out-Value}
use Rattle.xdg_domain.specs.declared.values.Value.TheOpen.{Value-F}
use Rattle.xdg_facts.specs.Rises.{has}

-- ---- key by key

-- What both say of a key: nothing, what one alone says, or what P makes of both.
abbrev pub Both : {V : Type 0} → (V → V → V → Type 0) → Option V → Option V → Option V → Type 0
Both P None b c = c ≡ b
Both P (Some x) None c = c ≡ Some x
Both P (Some x) (Some y) None = ⊥
Both P (Some x) (Some y) (Some z) = P x y z

-- the list with rising keys that says of each key what both say
abbrev pub SaysBoth : {V : Type 0} → (ℕ → V → V → V → Type 0) → List (ℕ × V) → List (ℕ × V) → List (ℕ × V) → Type 0
SaysBoth P a b c = KeysRise 0 c × ((key : ℕ) → Both (P key) (said_at a key) (said_at b key) (said_at c key))

-- both say something, and P holds of it
abbrev pub OnBoth : {V : Type 0} → (V → V → Type 0) → Option V → Option V → Type 0
OnBoth P (Some x) (Some y) = P x y
OnBoth P _ _ = ⊥

-- of some key both say something of which P holds
abbrev pub OnSome : {V : Type 0} → (ℕ → V → V → Type 0) → List (ℕ × V) → List (ℕ × V) → Type 0
OnSome P a b = (key : ℕ) × OnBoth (P key) (said_at a key) (said_at b key)

-- ---- sets and cardinalities

abbrev pub IsUnion : List ℕ → List ℕ → List ℕ → Type 0
IsUnion a b c = IsStrictlyIncreasing c × ((n : ℕ) → has c n ≡ (has a n || has b n))

abbrev pub IsMeet : List ℕ → List ℕ → List ℕ → Type 0
IsMeet a b c = IsStrictlyIncreasing c × ((n : ℕ) → has c n ≡ (has a n && has b n))

-- the numbers that both allow, at least one
abbrev pub AllowsBoth : List ℕ → List ℕ → List ℕ → Type 0
AllowsBoth a b c = IsCards c × ((n : ℕ) → has c n ≡ (has a n && has b n))

-- no number is allowed by both
abbrev pub IsApart : List ℕ → List ℕ → Type 0
IsApart a b = (n : ℕ) → (has a n && has b n) ≡ false

-- ---- values

-- c is what a and b say together: two plain values say the same; sets are joined by union or by intersection,
-- cardinalities by intersection, and valencies, maps and records key by key.
abbrev mutual
  pub JoinsIn : Shape → Value-F Value → Value-F Value → Value-F Value → Type 0
  JoinsIn (domain cs) (Value-F.Const a) (Value-F.Const b) (Value-F.Const c) = (a ≡ b) × (c ≡ a)
  JoinsIn (tuple ss) (Value-F.Tuple a) (Value-F.Tuple b) (Value-F.Tuple c) = (a ≡ b) × (c ≡ a)
  JoinsIn truth (Value-F.Bool a) (Value-F.Bool b) (Value-F.Bool c) = (a ≡ b) × (c ≡ a)
  JoinsIn integer (Value-F.Int a) (Value-F.Int b) (Value-F.Int c) = (a ≡ b) × (c ≡ a)
  JoinsIn text (Value-F.Str a) (Value-F.Str b) (Value-F.Str c) = (a ≡ b) × (c ≡ a)
  JoinsIn (set s) (Value-F.Set a) (Value-F.Set b) (Value-F.Set c) = IsUnion a b c
  JoinsIn (iset s) (Value-F.Set a) (Value-F.Set b) (Value-F.Set c) = IsMeet a b c
  JoinsIn card (Value-F.Card a) (Value-F.Card b) (Value-F.Card c) = AllowsBoth a b c
  JoinsIn (valency k) (Value-F.Valency a) (Value-F.Valency b) (Value-F.Valency c) = SaysBoth (λ key. AllowsBoth) a b c
  JoinsIn (mapping k u) (Value-F.Map a) (Value-F.Map b) (Value-F.Map c) = SaysBoth (λ key x y z. JoinsIn u (out-Value x) (out-Value y) (out-Value z)) a b c
  JoinsIn (fields fs) (Value-F.Rec a) (Value-F.Rec b) (Value-F.Rec c) = SaysBoth (JoinsField fs) a b c
  JoinsIn _ _ _ _ = ⊥

  -- the same of the field with that place
  pub JoinsField : Fields → ℕ → Value → Value → Value → Type 0
  JoinsField no_field k x y z = ⊥
  JoinsField (field_then name u fs) zero x y z = JoinsIn u (out-Value x) (out-Value y) (out-Value z)
  JoinsField (field_then name u fs) (suc k) x y z = JoinsField fs k x y z

abbrev pub Joins : Shape → Value → Value → Value → Type 0
Joins s x y z = JoinsIn s (out-Value x) (out-Value y) (out-Value z)

-- a and b can't hold together: two plain values that differ, two cardinalities without a common number, or such a pair
-- under a key or a field of which both say something
abbrev mutual
  pub ClashesIn : Shape → Value-F Value → Value-F Value → Type 0
  ClashesIn (domain cs) (Value-F.Const a) (Value-F.Const b) = a ≡ b → ⊥
  ClashesIn (tuple ss) (Value-F.Tuple a) (Value-F.Tuple b) = a ≡ b → ⊥
  ClashesIn truth (Value-F.Bool a) (Value-F.Bool b) = a ≡ b → ⊥
  ClashesIn integer (Value-F.Int a) (Value-F.Int b) = a ≡ b → ⊥
  ClashesIn text (Value-F.Str a) (Value-F.Str b) = a ≡ b → ⊥
  ClashesIn card (Value-F.Card a) (Value-F.Card b) = IsApart a b
  ClashesIn (valency k) (Value-F.Valency a) (Value-F.Valency b) = OnSome (λ key. IsApart) a b
  ClashesIn (mapping k u) (Value-F.Map a) (Value-F.Map b) = OnSome (λ key x y. ClashesIn u (out-Value x) (out-Value y)) a b
  ClashesIn (fields fs) (Value-F.Rec a) (Value-F.Rec b) = OnSome (ClashesField fs) a b
  ClashesIn _ _ _ = ⊥

  pub ClashesField : Fields → ℕ → Value → Value → Type 0
  ClashesField no_field k x y = ⊥
  ClashesField (field_then name u fs) zero x y = ClashesIn u (out-Value x) (out-Value y)
  ClashesField (field_then name u fs) (suc k) x y = ClashesField fs k x y

abbrev pub Clashes : Shape → Value → Value → Type 0
Clashes s x y = ClashesIn s (out-Value x) (out-Value y)

-- ---- what joins obey

-- exactly one value joins the two, and it is one of the type
pub record HasOneJoin (s : Shape) (x y : Value) : Type 0 where
  pub value : Value
  pub joins : Joins s x y value
  pub is : IsValue s value
  pub only : (other : Value) → Joins s x y other → other ≡ value

-- a value that joins x with what joins y and z
pub record JoinsLater (s : Shape) (x y z all : Value) : Type 0 where
  pub value : Value
  pub later : Joins s y z value
  pub joins : Joins s x value all

-- Two values of a type have exactly one join or they clash, never both. In which order two are joined, and in which grouping
-- three, makes no difference.
pub record JoinLaws (s : Shape) : Type 0 where
  pub decided : (x y : Value) → IsValue s x → IsValue s y → HasOneJoin s x y ⊎ Clashes s x y
  pub exclusive : (x y z : Value) → IsValue s x → IsValue s y → Joins s x y z → Clashes s x y → ⊥
  pub commutes : (x y z : Value) → Joins s x y z → Joins s y x z
  pub clash_commutes : (x y : Value) → Clashes s x y → Clashes s y x
  pub associates :
      (x y z both all : Value) → IsValue s x → IsValue s y → IsValue s z → Joins s x y both → Joins s both z all
      → JoinsLater s x y z all

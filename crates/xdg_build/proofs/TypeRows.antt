-- The rows of the values of a type.
use Rattle.std.proofs.Common.{◌≡◌, ℕ, ◌<◌, ◌≤◌, ◌+◌, List, [], ◌∷◌, length, map, refl, sym, ap, ◌∙◌, subst, inl, inr, arith}
use Rattle.std.specs.Prelude.{All, None}
use Rattle.std.specs.List.Sorted.{IsStrictlyIncreasing}
use Rattle.std.proofs.lemmas.Bool.{cases_eq}
use Rattle.std.proofs.lemmas.List.{length-map}
use Rattle.xdg_domain.specs.Cards.{IsCards}
use Rattle.xdg_domain.specs.Defaults.{IsFilledIn}
use Rattle.xdg_domain.specs.Shapes.{Shape, domain, tuple, set, iset, valency, mapping, Shapes, no_shape, shape_then, constants, constants_of, sizes, product, count}
use Rattle.xdg_domain.specs.Valencies.{said_at, KeysRise}
use Rattle.xdg_domain.specs.Values.{IsIn, AllBelow, EachSaid}
use Rattle.xdg_domain.specs.declared.values.Value.{Value, out-Value}
use Rattle.xdg_domain.specs.declared.values.Value.TheOpen.{Value-F}
use Rattle.xdg_domain.proofs.Keyed.{unsaid, after_head}
use Rattle.xdg_problem.specs.declared.forms.Element.{Element}
use Rattle.xdg_problem.specs.declared.forms.Element.TheVariants as e
use Rattle.xdg_problem.specs.declared.forms.Typing.{Typing}
use Rattle.xdg_problem.specs.declared.forms.Typing.TheVariants as t
use Rattle.xdg_problem.specs.declared.forms.Which.{Which}
use Rattle.xdg_principles.specs.Typed.{IsElementOf, IsTypedAs}
use Rattle.xdg_principles.specs.Wanted.{IsSame, IsSetOf}
use Rattle.xdg_build.specs.Features.{members_in, rows_in}
use Rattle.xdg_build.proofs.Cardinalities.{increases}
use Rattle.xdg_facts.proofs.Lists.{all_none, all_cons, all_one, some_numbers}
use Rattle.xdg_problem.specs.Principles.{IsCardinality, IsSet}
use Rattle.xdg_facts.proofs.Options.{is_said}
use Rattle.xdg_facts.proofs.Rising.{rises_small}

-- ---- how many elements

pub sizes_again : (ss : Shapes) → sizes ss ≡ map length (constants_of ss)
sizes_again no_shape = refl
sizes_again (shape_then s ss) = ap (λ ns. length (constants s) ∷ ns) (sizes_again ss)

-- types that are the same have as many values
pub same_count : (s u : Shape) → IsSame s u → count u ≡ count s
same_count (domain cs) (domain ds) h = ap length (sym h)
same_count (tuple ss) (tuple us) h = ap product (sizes_again us ∙ ap (map length) (sym h) ∙ sym (sizes_again ss))
same_count _ _ h = absurd h

abbrev pub size : (Which → List (List ℕ)) → Shape → Element → ℕ
size labels shared (e.Labels which) = length (labels which)
size labels shared e.Shared = count shared

element_size : (labels : Which → List (List ℕ)) (shared : Shape) (element : Element) (s : Shape) → IsElementOf labels shared element s → count s ≡ size labels shared element
element_size labels shared (e.Labels which) s h = ap count h
element_size labels shared e.Shared s h = same_count shared s h

-- ---- cardinalities and sets

cardinality : (ns : List ℕ) → IsCards ns → IsCardinality ns
cardinality ns h = record { some = some_numbers ns h.some; rising = increases ns h; small = rises_small 0 128 127 ns (omega arith) h.rises }

pub all_below : (bound : ℕ) (ns : List ℕ) → AllBelow bound ns → All (λ number. number < bound) ns
all_below bound [] h = all_none (λ number. number < bound)
all_below bound (n ∷ ns) h = all_cons (λ number. number < bound) n ns h.0 (all_below bound ns h.1)

below_along : (a b : ℕ) (ns : List ℕ) → a ≡ b → AllBelow a ns → AllBelow b ns
below_along a b ns same h = subst (λ n. AllBelow n ns) same h

set_right : (bound : ℕ) (ns : List ℕ) → IsStrictlyIncreasing ns → AllBelow bound ns → IsSet bound ns
set_right bound ns rising h = record { rising = rising; small = all_below bound ns h }

-- ---- what is said of each key

-- the first key is the least
pub first_key : {V : Type 0} (low bound : ℕ) (x : ℕ × V) (m : List (ℕ × V)) → KeysRise low (x ∷ m) → ((k : ℕ) → low ≤ k → k < bound → said_at (x ∷ m) k ≡ None → ⊥) → low < bound → x.0 ≡ low
first_key low bound x m rises said within = elim (cases_eq x.0 low) [
  | inl same ↦ same
  | inr other ↦ absurd (said low (omega arith) within (unsaid x.0 low (x ∷ m) (omega (arith, other, rises.0)) (omega arith, rises.1)))
]

-- where something is said of each key below the bound and of no other, there is one row for each
one_each : {V : Type 0} (P : ℕ → V → Type 0) (low bound : ℕ) (m : List (ℕ × V)) → low ≤ bound → ((key : ℕ) (v : V) → P key v → key < bound) → KeysRise low m → EachSaid P m
    → ((key : ℕ) → low ≤ key → key < bound → said_at m key ≡ None → ⊥) → low + length m ≡ bound
one_each P low bound [] order below rises each said = elim (cases_eq low bound) [
  | inl same ↦ omega (arith, same)
  | inr other ↦ absurd (said low (omega arith) (omega (arith, order, other)) refl)
]
one_each P low bound (x ∷ m) order below rises each said =
    let within : x.0 < bound = below x.0 x.1 each.0 in
    let same : x.0 ≡ low = first_key low bound x m rises said (omega (arith, within, rises.0)) in
    let rest : x.0 + 1 + length m ≡ bound = one_each P (x.0 + 1) bound m (omega (arith, within)) below rises.1 each.1
    (λ key above less none. said key (omega (arith, above, same)) less (after_head x m key (λ i. omega (arith, i, above)) ∙ none)) in
    omega (arith, rest, same)

each_row : {V : Type 0} (P : ℕ → V → Type 0) (Q : List ℕ → Type 0) (row : V → List ℕ) (m : List (ℕ × V)) → ((key : ℕ) (v : V) → P key v → Q (row v)) → EachSaid P m → All Q (map (λ said. row said.1) m)
each_row P Q row [] right each = all_none Q
each_row P Q row (x ∷ m) right each = all_cons Q (row x.1) (map (λ said. row said.1) m) (right x.0 x.1 each.0) (each_row P Q row m right each.1)

-- ---- rows

-- the rows of a value of such a type
abbrev pub RowsFit : (Which → List (List ℕ)) → Shape → Typing → List (List ℕ) → Type 0
RowsFit labels shared (t.One element) rows = Unit {0}
RowsFit labels shared (t.Set element) rows = (length rows ≡ 1) × All (IsSet (size labels shared element)) rows
RowsFit labels shared (t.Valency which) rows = (length rows ≡ length (labels which)) × All IsCardinality rows
RowsFit labels shared (t.Map which element) rows = (length rows ≡ length (labels which)) × All (IsSet (size labels shared element)) rows

-- what holds of each set holds of every value of a type of sets
pub sets : (P : Shape → Type 0) (Q : Shape → Value-F Value → Type 0) → ((s : Shape) (ns : List ℕ) → P s → IsIn (set s) (Value-F.Set ns) → Q (set s) (Value-F.Set ns) × Q (iset s) (Value-F.Set ns))
    → (type : Shape) (v : Value-F Value) → IsSetOf P type → IsIn type v → Q type v
sets P Q each (set s) (Value-F.Set ns) h is = (each s ns h is).0
sets P Q each (iset s) (Value-F.Set ns) h is = (each s ns h is).1
sets P Q each (set s) _ h is = absurd is
sets P Q each (iset s) _ h is = absurd is
sets P Q each _ v h is = absurd h

member_rows : (bound : ℕ) (P : Shape → Type 0) → ((s : Shape) → P s → count s ≡ bound) → (u : Shape) (v : Value-F Value) → IsSetOf P u → IsIn u v → IsSet bound (members_in v)
member_rows bound P same = sets P (λ u v. IsSet bound (members_in v)) (λ s ns p h.
    let right : IsSet bound ns = set_right bound ns h.0 (below_along (count s) bound ns (same s p) h.1) in (right, right))

pub set_rows_are : (P : Shape → Type 0) (type : Shape) (v : Value-F Value) → IsSetOf P type → IsIn type v → rows_in v ≡ members_in v ∷ []
set_rows_are P = sets P (λ type v. rows_in v ≡ members_in v ∷ []) (λ s ns p h. (refl, refl))

none_more : (a b : ℕ) → 0 + a ≡ b → a ≡ b
none_more a b h = omega (arith, h)

valency_rows : (keys : List (List ℕ)) (v : Value-F Value) → IsIn (valency (domain keys)) v → IsFilledIn (valency (domain keys)) v → (length (rows_in v) ≡ length keys) × All IsCardinality (rows_in v)
valency_rows keys (Value-F.Valency m) h filled = (
  length-map m (λ said. said.1) ∙ none_more (length m) (length keys) (one_each (λ key ns. (key < length keys) × IsCards ns) 0 (length keys) m (omega arith) (λ key ns p. p.0) h.0 h.1 (λ key _ less none. is_said (λ ns. Unit {0}) (said_at m key) (filled key less) none)),
  each_row (λ key ns. (key < length keys) × IsCards ns) IsCardinality (λ ns. ns) m (λ key ns p. cardinality ns p.1) h.1,
)
valency_rows keys _ h filled = absurd h

map_rows : (keys : List (List ℕ)) (bound : ℕ) (u : Shape) (v : Value-F Value) (P : Shape → Type 0) → ((s : Shape) → P s → count s ≡ bound) → IsSetOf P u → IsIn (mapping (domain keys) u) v → IsFilledIn (mapping (domain keys) u) v
    → (length (rows_in v) ≡ length keys) × All (IsSet bound) (rows_in v)
map_rows keys bound u (Value-F.Map m) P same is h filled = (
  length-map m (λ said. members_in (out-Value said.1))
      ∙ none_more (length m) (length keys) (one_each (λ key v. (key < length keys) × IsIn u (out-Value v)) 0 (length keys) m (omega arith) (λ key v p. p.0) h.0 h.1 (λ key _ less none. is_said (λ v. IsFilledIn u (out-Value v)) (said_at m key) (filled key less) none)),
  each_row (λ key v. (key < length keys) × IsIn u (out-Value v)) (IsSet bound) (λ v. members_in (out-Value v)) m (λ key v p. member_rows bound P same u (out-Value v) is p.1) h.1,
)
map_rows keys bound u _ P same is h filled = absurd h

mapped : (labels : Which → List (List ℕ)) (shared : Shape) (which : Which) (element : Element) (k u : Shape) (v : Value-F Value) → k ≡ domain (labels which) → IsSetOf (IsElementOf labels shared element) u → IsIn (mapping k u) v → IsFilledIn (mapping k u) v
    → RowsFit labels shared (t.Map which element) (rows_in v)
mapped labels shared which element k u v same is h filled =
    map_rows (labels which) (size labels shared element) u v (IsElementOf labels shared element) (element_size labels shared element) is
    (subst (λ key. IsIn (mapping key u) v) same h) (subst (λ key. IsFilledIn (mapping key u) v) same filled)

pub value_rows : (labels : Which → List (List ℕ)) (shared : Shape) (typing : Typing) (type : Shape) (v : Value-F Value) → IsTypedAs labels shared typing type → IsIn type v → IsFilledIn type v → RowsFit labels shared typing (rows_in v)
value_rows labels shared (t.One element) type v is h filled = tt
value_rows labels shared (t.Set element) type v is h filled =
    let P : Shape → Type 0 = IsElementOf labels shared element in
    subst (RowsFit labels shared (t.Set element)) (sym (set_rows_are P type v is h))
    (refl, all_one (IsSet (size labels shared element)) (members_in v) (member_rows (size labels shared element) P (element_size labels shared element) type v is h))
value_rows labels shared (t.Valency which) type v is h filled =
    valency_rows (labels which) v (subst (λ s. IsIn s v) is h) (subst (λ s. IsFilledIn s v) is filled)
value_rows labels shared (t.Map which element) (mapping k u) v is h filled = mapped labels shared which element k u v is.0 is.1 h filled
value_rows labels shared _ _ v is h filled = absurd is

-- A type has a default exactly where it has no plain part, and its default is a value that says all.
use Rattle.std.proofs.Common.{◌≡◌, ◌⊎◌, ℕ, ◌<◌, ◌≤◌, ◌+◌, ◌-◌, ◌*◌, ◌^◌, ◌%◌, zero, suc, List, [], ◌∷◌, Option, None, Some, inl, inr, refl, ap, ap₂, sym, ◌∙◌, arith, subst}
use Rattle.std.specs.Prelude.{◌==◌, true, MatchOption}
use Rattle.std.specs.List.{range_with_len}
use Rattle.std.proofs.lemmas.Bool.{cond-true, cond-false, eq-eqb, ne_eqb}
use Rattle.xdg_domain.specs.Cards.{cards, IsCards}
use Rattle.xdg_domain.specs.Valencies.{said_at, KeysRise}
use Rattle.xdg_domain.specs.Shapes.{Shape, set, iset, card, valency, mapping, fields, Fields, no_field, field_then, count, IsType, AreTypes, IsMapped}
use Rattle.xdg_domain.specs.Values.{EachSaid, IsIn, IsFieldOf, IsValue}
use Rattle.xdg_domain.specs.Defaults.{default, defaults, for_each_key, map_of_default, record_of_defaults, field_and_defaults, HasPlain, SomeHasPlain, IsFilledIn, AreFilled, IsFilled}
use Rattle.xdg_domain.specs.declared.values.Value.{Value, out-Value}
use Rattle.xdg_domain.specs.declared.values.Value.TheOpen.{Value-F}
use Rattle.xdg_domain.specs.declared.values.Value.TheVariants as v
use Rattle.xdg_domain.proofs.Masks.{members_are_cards, all_bits}
use Rattle.xdg_domain.proofs.Each.{each_rises, each_holds, each_said, all_below}
use Rattle.xdg_domain.proofs.Made.{none_and}
use Rattle.xdg_facts.proofs.Options.{some_same, not_both_ways}
use Rattle.xdg_facts.proofs.BitMembers.{one_bits, one_within}
use Rattle.xdg_facts.proofs.Sorting.{range_rises}

-- ---- whether there is one

pub mapped_plain : (s : Shape) → IsMapped s → HasPlain s → ⊥
mapped_plain (set s) h p = p
mapped_plain s h p = assumption (h, p)

-- there is none, and a plain part, or there is one, and none
abbrev pub Decided : Shape → Type 0
Decided s = ((default s ≡ None) × HasPlain s) ⊎ ((HasPlain s → ⊥) × ((x : Value) × (default s ≡ Some x)))

abbrev pub AllDecided : ℕ → Fields → Type 0
AllDecided place fs = ((defaults place fs ≡ None) × SomeHasPlain fs) ⊎ ((SomeHasPlain fs → ⊥) × ((all : List (ℕ × Value)) × (defaults place fs ≡ Some all)))

mutual
  pub decided : (s : Shape) → IsType s → Decided s
  decided (set s) h = inr (λ p. p, (v.Set [], refl))
  decided (iset s) h = inr (λ p. p, (v.Set (range_with_len 0 (count s)), refl))
  decided card h = inr (λ p. p, (v.Card (cards (λ _. true)), refl))
  decided (valency k) h = inr (λ p. p, (v.Valency (for_each_key (count k) (0 ∷ [])), refl))
  decided (mapping k u) h = elim (decided u h.1.1) [
    | inl none ↦ absurd (mapped_plain u h.1.0 none.1)
    | inr some ↦ inr (λ p. p, (v.Map (for_each_key (count k) some.1.0), ap (map_of_default (count k)) some.1.1))
  ]
  decided (fields fs) h = elim (all_decided 0 fs h.1) [
    | inl none ↦ inl (ap record_of_defaults none.0, none.1)
    | inr some ↦ inr (some.0, (v.Rec some.1.0, ap record_of_defaults some.1.1))
  ]
  decided s h = inl (refl, tt)

  pub all_decided : (place : ℕ) (fs : Fields) → AreTypes fs → AllDecided place fs
  all_decided place no_field h = inr (λ p. p, ([], refl))
  all_decided place (field_then name u fs) h = elim (decided u h.0) [
    | inl none ↦ inl (ap (λ o. field_and_defaults place o (defaults (place + 1) fs)) none.0 ∙ none_and place (defaults (place + 1) fs), inl none.1)
    | inr some ↦ elim (all_decided (place + 1) fs h.1) [
      | inl none ↦ inl (ap₂ (field_and_defaults place) some.1.1 none.0, inr none.1)
      | inr rest ↦ inr (λ p. elim p [ inl a ↦ some.0 a | inr b ↦ rest.0 b ], ((place, some.1.0) ∷ rest.1.0, ap₂ (field_and_defaults place) some.1.1 rest.1.1))
    ]
  ]

-- a type has no default exactly where it has a plain part

-- the map of the keys made so far is the default, once all are made
pub map_made : (u : Shape) (keys : ℕ) (all : List (ℕ × Value)) → IsMapped u → IsType u → ((x : Value) → default u ≡ Some x → all ≡ for_each_key keys x) → Some (v.Map all) ≡ map_of_default keys (default u)
map_made u keys all mapped right made = elim (decided u right) [
  | inl none ↦ absurd (mapped_plain u mapped none.1)
  | inr some ↦ ap (λ l. Some (v.Map l)) (made some.1.0 some.1.1) ∙ sym (ap (map_of_default keys) some.1.1)
]

-- ---- what it is

-- a value of the type that says all
abbrev pub IsRight : Shape → Value → Type 0
IsRight s x = IsValue s x × IsFilled s x

pub by_layer : (s : Shape) (x y : Value) (l : Value-F Value) → Some y ≡ Some x → out-Value y ≡ l → IsIn s l × IsFilledIn s l → IsRight s x
by_layer s x y l e o given = subst (IsRight s) (some_same y x e) (subst (λ m. IsIn s m × IsFilledIn s m) (sym o) given)

all_cards : IsCards (cards (λ _. true))
all_cards = subst IsCards all_bits (members_are_cards (2 ^ 128 - 1) (omega arith) (omega arith))

pub zero_alone : IsCards (0 ∷ [])
zero_alone = let within = one_within 0 (omega arith) in subst IsCards (one_bits 0 (omega arith)) (members_are_cards (1 * 2 ^ 0 % 2 ^ 128) within.0 within.1)

-- a field's default and those of the rest
pub record Taken (place : ℕ) (o : Option Value) (r : Option (List (ℕ × Value))) (all : List (ℕ × Value)) : Type 0 where
  pub first : Value
  pub rest : List (ℕ × Value)
  pub one : o ≡ Some first
  pub more : r ≡ Some rest
  pub whole : (place, first) ∷ rest ≡ all

pub taken : (place : ℕ) (o : Option Value) (r : Option (List (ℕ × Value))) (all : List (ℕ × Value)) → field_and_defaults place o r ≡ Some all → Taken place o r all
taken place (Some x) (Some rest) all e = record { first = x; rest = rest; one = refl; more = refl; whole = some_same ((place, x) ∷ rest) all e }
taken place o r all e = absurd (cc)

-- the value is one of the field that stands so many after that place
abbrev pub IsAt : Fields → ℕ → ℕ → Value → Type 0
IsAt fs place k w = (j : ℕ) × ((k ≡ place + j) × IsFieldOf fs j w)

-- the defaults of the fields from that place on
record AreRight (fs : Fields) (place : ℕ) (all : List (ℕ × Value)) : Type 0 where
  rise : KeysRise place all
  each : EachSaid (IsAt fs place) all
  filled : (m : List (ℕ × Value)) → ((q : ℕ) → place ≤ q → said_at m q ≡ said_at all q) → AreFilled place fs m

pub each_wider : (P Q : ℕ → Value → Type 0) → ((k : ℕ) (w : Value) → P k w → Q k w) → (s : List (ℕ × Value)) → EachSaid P s → EachSaid Q s
each_wider P Q wider [] h = tt
each_wider P Q wider (entry ∷ s) h = (wider entry.0 entry.1 h.0, each_wider P Q wider s h.1)

mutual
  pub right : (s : Shape) → IsType s → (x : Value) → default s ≡ Some x → IsRight s x
  right (set s) h x e = by_layer (set s) x (v.Set []) (Value-F.Set []) e (v.outs-Set []) ((range_rises 0 0, tt), tt)
  right (iset s) h x e =
      let full = range_with_len 0 (count s) in
      by_layer (iset s) x (v.Set full) (Value-F.Set full) e (v.outs-Set full) ((range_rises 0 (count s), all_below (count s)), tt)
  right card h x e =
      let every = cards (λ _. true) in
      by_layer card x (v.Card every) (Value-F.Card every) e (v.outs-Card every) (all_cards, tt)
  right (valency k) h x e =
      let all = for_each_key (count k) (0 ∷ []) in
      by_layer (valency k) x (v.Valency all) (Value-F.Valency all) e (v.outs-Valency all) (
        (each_rises (0 ∷ []) (count k), each_holds (λ key ns. (key < count k) × IsCards ns) (0 ∷ []) (count k) (λ key below. (below, zero_alone))),
        λ key below. subst (λ o. MatchOption o ⊥ (λ ns. Unit {0})) (sym (each_said (0 ∷ []) (count k) key below)) tt,
      )
  right (mapping k u) h x e = elim (decided u h.1.1) [
    | inl none ↦ absurd (mapped_plain u h.1.0 none.1)
    | inr some ↦
        let y = some.1.0 in
        let all = for_each_key (count k) y in
        let inner = right u h.1.1 y some.1.1 in
        by_layer (mapping k u) x (v.Map all) (Value-F.Map all) (sym (ap (map_of_default (count k)) some.1.1) ∙ e) (v.outs-Map all) (
          (each_rises y (count k), each_holds (λ key w. (key < count k) × IsIn u (out-Value w)) y (count k) (λ key below. (below, inner.0))),
          λ key below. subst (λ o. MatchOption o ⊥ (λ w. IsFilledIn u (out-Value w))) (sym (each_said y (count k) key below)) inner.1,
        )
  ]
  right (fields fs) h x e = elim (all_decided 0 fs h.1) [
    | inl none ↦ absurd (not_both_ways (record_of_defaults (defaults 0 fs)) x (ap record_of_defaults none.0) e)
    | inr some ↦
        let all = some.1.0 in
        let are = fields_right fs h.1 0 all some.1.1 in
        by_layer (fields fs) x (v.Rec all) (Value-F.Rec all) (sym (ap record_of_defaults some.1.1) ∙ e) (v.outs-Rec all) (
          (are.rise, each_wider (IsAt fs 0) (IsFieldOf fs) (λ k w g. let same : g.0 ≡ k = omega (arith, g.1.0) in subst (λ j. IsFieldOf fs j w) same g.1.1) all are.each),
          are.filled all (λ q above. refl),
        )
  ]
  right s h x e = absurd (cc)

  fields_right : (fs : Fields) → AreTypes fs → (place : ℕ) (all : List (ℕ × Value)) → defaults place fs ≡ Some all → AreRight fs place all
  fields_right no_field h place all e = subst (AreRight no_field place) (some_same [] all e) (record { rise = tt; each = tt; filled = λ m same. tt })
  fields_right (field_then name u fs) h place all e =
      let t = taken place (default u) (defaults (place + 1) fs) all e in
      let one = right u h.0 t.first t.one in
      let more = fields_right fs h.1 (place + 1) t.rest t.more in
      subst (AreRight (field_then name u fs) place) t.whole (record {
        rise = (omega arith, more.rise);
        each = ((zero, (omega arith, one.0)), each_wider (IsAt fs (place + 1)) (IsAt (field_then name u fs) place) (λ k w g. (suc g.0, (omega (arith, g.1.0), g.1.1))) t.rest more.each);
        filled = λ m same. (
          subst (λ o. MatchOption o ⊥ (λ w. IsFilledIn u (out-Value w))) (sym (same place (omega arith) ∙ cond-true (place == place) (Some t.first) (said_at t.rest place) (eq-eqb place place refl))) one.1,
          more.filled m (λ q above. same q (omega (arith, above)) ∙ cond-false (place == q) (Some t.first) (said_at t.rest q) (ne_eqb place q (λ f. omega (arith, f, above)))),
        );
      })

-- the default is a value of the type

pub default_is_value : (s : Shape) → IsType s → (x : Value) → default s ≡ Some x → IsValue s x
default_is_value s h x e = (right s h x e).0

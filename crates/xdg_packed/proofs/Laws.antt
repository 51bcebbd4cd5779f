-- What is filled is a value that says all, and nothing is filled exactly where a plain part lacks.
use Rattle.std.proofs.Common.{◌≡◌, ◌⊎◌, ℕ, ◌<◌, ◌≤◌, ◌+◌, zero, suc, List, [], ◌∷◌, map, Option, None, Some, inl, inr, refl, ap, ap₂, sym, ◌∙◌, arith, subst}
use Rattle.std.specs.Prelude.{◌↔◌, MatchOption, Result, Ok, Err, IfOk, IfSome}
use Rattle.std.specs.declared.alloc.AllocError.{AllocError}
use Rattle.std.specs.List.{range_with_len}
use Rattle.xdg_domain.specs.Cards.{IsCards}
use Rattle.xdg_domain.specs.Valencies.{said_at, KeysRise}
use Rattle.xdg_domain.specs.Shapes.{Shape, set, iset, card, valency, mapping, fields, Fields, no_field, field_then, count, IsType, AreTypes, IsMapped}
use Rattle.xdg_domain.specs.Values.{EachSaid, IsIn, IsFieldOf, IsValue}
use Rattle.xdg_domain.specs.Defaults.{field_and_defaults, record_of_defaults, IsFilledIn, AreFilled, IsFilled}
use Rattle.xdg_domain.specs.declared.values.Value.{Value, out-Value}
use Rattle.xdg_domain.specs.declared.values.Value.TheOpen.{Value-F}
use Rattle.xdg_domain.specs.declared.values.Value.TheVariants as v
use Rattle.xdg_domain.proofs.DefaultLaws.{default_is_value, zero_alone, each_wider, IsRight, IsAt, by_layer, taken}
use Rattle.xdg_domain.proofs.Each.{keyed_rises, keyed_each, keyed_said}
use Rattle.xdg_domain.proofs.Keyed.{at_head, after_head, said_right}
use Rattle.xdg_domain.proofs.Made.{none_and}
use Rattle.xdg_packed.specs.Filled.{cards_in, cards_said, keys_in, keys_said, fields_in, fields_said, or_zero, each_key, filled_cards, filled, filled_fields, Lacks, SomeLacks, IsSaid, AreValuesOf, AreSaid}
use Rattle.xdg_facts.proofs.Options.{some_same, not_both_ways}
use Rattle.xdg_domain.specs.Joined.{of_map}
use Rattle.xdg_facts.proofs.Each.{keyed}
use Rattle.xdg_facts.proofs.Lists.{if_some}

-- ---- what is said

is_said : (s : Shape) (o : Option Value) → ((w : Value) → o ≡ Some w → IsValue s w) → IsSaid s o
is_said s None h = tt
is_said s (Some w) h = h w refl

are_said : (fs : Fields) (place : ℕ) (m : List (ℕ × Value)) → ((j : ℕ) (w : Value) → said_at m (place + j) ≡ Some w → IsFieldOf fs j w) → AreSaid place fs m
are_said no_field place m h = tt
are_said (field_then name u fs) place m h = (
  is_said u (said_at m place) (λ w e. h 0 w (ap (said_at m) (omega arith) ∙ e)),
  are_said fs (place + 1) m (λ j w e. h (suc j) w (ap (said_at m) (omega arith) ∙ e)),
)

record_layer : (fs : Fields) (l : Value-F Value) → IsIn (fields fs) l → KeysRise 0 (fields_in l) × AreSaid 0 fs (fields_in l)
record_layer fs (Value-F.Rec m) h = (h.0, are_said fs 0 m (λ j w e. said_right (IsFieldOf fs) m j w h.1 (ap (said_at m) (omega arith) ∙ e)))
record_layer fs other h = absurd h

nothing_said : (fs : Fields) (place : ℕ) → AreSaid place fs []
nothing_said no_field place = tt
nothing_said (field_then name u fs) place = (tt, nothing_said fs (place + 1))

-- what is said of the fields of a record is right
pub record_said : (fs : Fields) (said : Option Value) → IsSaid (fields fs) said → KeysRise 0 (fields_said said) × AreSaid 0 fs (fields_said said)
record_said fs None h = (tt, nothing_said fs 0)
record_said fs (Some x) h = record_layer fs (out-Value x) h

map_layer : (k u : Shape) (l : Value-F Value) → IsIn (mapping k u) l → AreValuesOf u (keys_in l)
map_layer k u (Value-F.Map m) h = λ key. is_said u (said_at m key) (λ w e. (said_right (λ key v. (key < count k) × IsIn u (out-Value v)) m key w h.1 e).1)
map_layer k u other h = absurd h

-- what is said of the keys of a map is right
pub map_said : (k u : Shape) (said : Option Value) → IsSaid (mapping k u) said → AreValuesOf u (keys_said said)
map_said k u None h = λ key. tt
map_said k u (Some x) h = map_layer k u (out-Value x) h

-- cardinalities that are said are cardinalities
abbrev AreCards : List (ℕ × List ℕ) → Type 0
AreCards m = (key : ℕ) → IsCards (or_zero (said_at m key))

cards_or_zero : (o : Option (List ℕ)) → ((ns : List ℕ) → o ≡ Some ns → IsCards ns) → IsCards (or_zero o)
cards_or_zero None h = zero_alone
cards_or_zero (Some ns) h = h ns refl

valency_layer : (k : Shape) (l : Value-F Value) → IsIn (valency k) l → AreCards (cards_in l)
valency_layer k (Value-F.Valency m) h = λ key. cards_or_zero (said_at m key) (λ ns e. (said_right (λ key ns. (key < count k) × IsCards ns) m key ns h.1 e).1)
valency_layer k other h = absurd h

valency_said : (k : Shape) (said : Option Value) → IsSaid (valency k) said → AreCards (cards_said said)
valency_said k None h = λ key. zero_alone
valency_said k (Some x) h = valency_layer k (out-Value x) h

-- ---- whether something lacks

mapped_full : (s : Shape) (said : Option Value) → IsMapped s → Lacks s said → ⊥
mapped_full (fields fs) said h p = h
mapped_full _ said h p = absurd (assumption (h, p))

abbrev Decided : Shape → Option Value → Type 0
Decided s said = ((filled s said ≡ None) × Lacks s said) ⊎ ((Lacks s said → ⊥) × ((x : Value) × (filled s said ≡ Some x)))

abbrev AllDecided : ℕ → Fields → List (ℕ × Value) → Type 0
AllDecided place fs m = ((filled_fields place fs m ≡ None) × SomeLacks place fs m) ⊎ ((SomeLacks place fs m → ⊥) × ((all : List (ℕ × Value)) × (filled_fields place fs m ≡ Some all)))

-- what is given for each key, where something is
each_some : (f : ℕ → Option Value) (g : ℕ → Value) → ((key : ℕ) → f key ≡ Some (g key)) → (keys : List ℕ) → each_key f keys ≡ Some (map (λ key. (key, g key)) keys)
each_some f g has [] = refl
each_some f g has (key ∷ keys) = ap₂ (field_and_defaults key) (has key) (each_some f g has keys)

found : (u : Shape) (o : Option Value) → IsMapped u → Decided u o → (x : Value) × (filled u o ≡ Some x)
found u o mapped d = elim d [
  | inl none ↦ absurd (mapped_full u o mapped none.1)
  | inr some ↦ some.1
]

mutual
  decided : (s : Shape) → IsType s → (said : Option Value) → Decided s said
  decided (set s) h None = inr (λ p. p, (v.Set [], refl))
  decided (iset s) h None = inr (λ p. p, (v.Set (range_with_len 0 (count s)), refl))
  decided card h None = inr (λ p. p, (_, refl))
  decided (valency k) h said = inr (λ p. p, (v.Valency (filled_cards (count k) (cards_said said)), refl))
  decided (mapping k u) h said =
      let has = λ (key : ℕ). found u (said_at (keys_said said) key) h.1.0 (decided u h.1.1 (said_at (keys_said said) key)) in
      inr (λ p. p, (v.Map (keyed (λ key. (has key).0) 0 (count k)), ap of_map (each_some (λ key. filled u (said_at (keys_said said) key)) (λ key. (has key).0) (λ key. (has key).1) (range_with_len 0 (count k)))))
  decided (fields fs) h said = elim (all_decided fs h.1 0 (fields_said said)) [
    | inl none ↦ inl (ap record_of_defaults none.0, none.1)
    | inr some ↦ inr (some.0, (v.Rec some.1.0, ap record_of_defaults some.1.1))
  ]
  decided s h None = inl (refl, tt)
  decided s h (Some x) = inr (λ p. p, (x, refl))

  all_decided : (fs : Fields) → AreTypes fs → (place : ℕ) (m : List (ℕ × Value)) → AllDecided place fs m
  all_decided no_field h place m = inr (λ p. p, ([], refl))
  all_decided (field_then name u fs) h place m = elim (decided u h.0 (said_at m place)) [
    | inl none ↦ inl (ap (λ o. field_and_defaults place o (filled_fields (place + 1) fs m)) none.0 ∙ none_and place (filled_fields (place + 1) fs m), inl none.1)
    | inr some ↦ elim (all_decided fs h.1 (place + 1) m) [
      | inl none ↦ inl (ap₂ (field_and_defaults place) some.1.1 none.0, inr none.1)
      | inr rest ↦ inr (λ p. elim p [ inl a ↦ some.0 a | inr b ↦ rest.0 b ], ((place, some.1.0) ∷ rest.1.0, ap₂ (field_and_defaults place) some.1.1 rest.1.1))
    ]
  ]

-- nothing is filled exactly where a plain part lacks
pub none_lacks : (s : Shape) → IsType s → (said : Option Value) → (filled s said ≡ None) ↔ Lacks s said
none_lacks s h said = (
  λ e. elim (decided s h said) [ inl none ↦ none.1 | inr some ↦ absurd (not_both_ways (filled s said) some.1.0 e some.1.1) ],
  λ p. elim (decided s h said) [ inl none ↦ none.0 | inr some ↦ absurd (some.0 p) ],
)

-- ---- what it is

-- what fills the fields from a place on: its keys rise, each has a field and a value of it, and what says the same from there on says all
abbrev FieldsRight : Fields → ℕ → List (ℕ × Value) → Type 0
FieldsRight fs place all = KeysRise place all × (EachSaid (IsAt fs place) all × ((n : List (ℕ × Value)) → ((q : ℕ) → place ≤ q → said_at n q ≡ said_at all q) → AreFilled place fs n))

-- what is filled is a value of the type, and says something of each key and of each field
mutual
  pub filled_right : (s : Shape) → IsType s → (said : Option Value) → IsSaid s said → (x : Value) → filled s said ≡ Some x → IsRight s x
  filled_right (valency k) h said given x e =
      let m = cards_said said in
      let g : ℕ → List ℕ = λ key. or_zero (said_at m key) in
      let all = filled_cards (count k) m in
      by_layer (valency k) x (v.Valency all) (Value-F.Valency all) e (v.outs-Valency all) (
        (keyed_rises g 0 (count k), keyed_each (λ key ns. (key < count k) × IsCards ns) g (count k) 0 (count k) (omega arith) (λ key below. (below, valency_said k said given key))),
        λ key below. subst (λ o. MatchOption o ⊥ (λ ns. Unit {0})) (sym (keyed_said g 0 (count k) key (omega arith) (omega (arith, below)))) tt,
      )
  filled_right (mapping k u) h said given x e =
      let m = keys_said said in
      let has = λ (key : ℕ). found u (said_at m key) h.1.0 (decided u h.1.1 (said_at m key)) in
      let g : ℕ → Value = λ key. (has key).0 in
      let all = keyed g 0 (count k) in
      let holds : (key : ℕ) → IsRight u (g key) = λ key. filled_right u h.1.1 (said_at m key) (map_said k u said given key) (g key) (has key).1 in
      by_layer (mapping k u) x (v.Map all) (Value-F.Map all) (sym (ap of_map (each_some (λ key. filled u (said_at m key)) g (λ key. (has key).1) (range_with_len 0 (count k)))) ∙ e) (v.outs-Map all) (
        (keyed_rises g 0 (count k), keyed_each (λ key y. (key < count k) × IsIn u (out-Value y)) g (count k) 0 (count k) (omega arith) (λ key below. (below, (holds key).0))),
        λ key below. subst (λ o. MatchOption o ⊥ (λ w. IsFilledIn u (out-Value w))) (sym (keyed_said g 0 (count k) key (omega arith) (omega (arith, below)))) (holds key).1,
      )
  filled_right (fields fs) h said given x e = elim (all_decided fs h.1 0 (fields_said said)) [
    | inl none ↦ absurd (not_both_ways (record_of_defaults (filled_fields 0 fs (fields_said said))) x (ap record_of_defaults none.0) e)
    | inr some ↦
        let all = some.1.0 in
        let told = fields_right fs h.1 0 (fields_said said) (record_said fs said given).1 all some.1.1 in
        by_layer (fields fs) x (v.Rec all) (Value-F.Rec all) (sym (ap record_of_defaults some.1.1) ∙ e) (v.outs-Rec all) (
          (told.0, each_wider (IsAt fs 0) (IsFieldOf fs) (λ k w g. let same : g.0 ≡ k = omega (arith, g.1.0) in subst (λ j. IsFieldOf fs j w) same g.1.1) all told.1.0),
          told.1.1 all (λ q above. refl),
        )
  ]
  filled_right s h None given x e = (default_is_value s h x e, tt)
  filled_right s h (Some y) given x e = (subst (IsValue s) (some_same y x e) given, tt)

  fields_right : (fs : Fields) → AreTypes fs → (place : ℕ) (m : List (ℕ × Value)) → AreSaid place fs m → (all : List (ℕ × Value)) → filled_fields place fs m ≡ Some all → FieldsRight fs place all
  fields_right no_field h place m are all e = subst (FieldsRight no_field place) (some_same [] all e) (tt, (tt, λ n same. tt))
  fields_right (field_then name u fs) h place m are all e =
      let t = taken place (filled u (said_at m place)) (filled_fields (place + 1) fs m) all e in
      let first = filled_right u h.0 (said_at m place) are.0 t.first t.one in
      let rest = fields_right fs h.1 (place + 1) m are.1 t.rest t.more in
      subst (FieldsRight (field_then name u fs) place) t.whole (
        (omega arith, rest.0),
        (
          ((zero, (omega arith, first.0)), each_wider (IsAt fs (place + 1)) (IsAt (field_then name u fs) place) (λ k w g. (suc g.0, (omega (arith, g.1.0), g.1.1))) t.rest rest.1.0),
          λ n same. (
            subst (λ o. MatchOption o ⊥ (λ w. IsFilledIn u (out-Value w))) (sym (same place (omega arith) ∙ at_head (place, t.first) t.rest place refl)) first.1,
            rest.1.1 n (λ q above. same q (omega (arith, above)) ∙ after_head (place, t.first) t.rest q (λ f. omega (arith, f, above))),
          ),
        ),
      )

-- the same of what an answer tells
pub told_lacks : (s : Shape) → IsType s → (said : Option Value) (told : Result (Option Value) AllocError) → IfOk told (λ o. o ≡ filled s said) → IfOk told (λ o. (o ≡ None) ↔ Lacks s said)
told_lacks s h said (Ok o) is = subst (λ p. (p ≡ None) ↔ Lacks s said) (sym is) (none_lacks s h said)
told_lacks s h said (Err e) is = tt

pub told_right : (s : Shape) → IsType s → (said : Option Value) → IsSaid s said → (told : Result (Option Value) AllocError) → IfOk told (λ o. o ≡ filled s said) → IfOk told (λ o. IfSome o (λ x. IsValue s x × IsFilled s x))
told_right s h said given (Ok o) is = if_some (λ x. IsValue s x × IsFilled s x) o (λ x e. filled_right s h said given x (sym is ∙ e))
told_right s h said given (Err e) is = tt

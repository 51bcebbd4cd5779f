-- The list of what is wrong with a term has exactly the offences.
use Rattle.std.proofs.Common.{◌≡◌, ◌⊎◌, inl, inr, ℕ, ◌<◌, Bool, true, false, List, [], ◌∷◌, ◌++◌, map, Option, Some, None, length, refl, sym, ap, ap₂, ◌∙◌, subst, append_assoc}
use Rattle.std.specs.Prelude.{if◌then◌else◌, bytes_eq, nat_lt, ◌||◌}
use Rattle.std.specs.List.{flat_map}
use Rattle.std.proofs.lemmas.Bool.{ltb-true, lt-ltb, or_cases, or_left, or_right, true≢false}
use Rattle.std.proofs.lemmas.List.{append-nil}
use Rattle.std.proofs.lemmas.List.Folds.{flat_map-map}
use Rattle.std.proofs.lemmas.Grind.{flat_map-append}
use Rattle.xdg_base.specs.Faults.{fault_at}
use Rattle.xdg_base.specs.declared.faults.Cause.{Cause}
use Rattle.xdg_base.specs.declared.faults.Cause.TheVariants as causes
use Rattle.xdg_base.specs.declared.faults.Fault.{Fault}
use Rattle.xdg_ast.specs.declared.names.Name.{Name}
use Rattle.xdg_ast.specs.declared.names.Num.{Num}
use Rattle.xdg_ast.specs.Texts.{texts}
use Rattle.xdg_ast.specs.Misnamed.{IsUnknown, IsAgain}
use Rattle.xdg_ast.specs.declared.names.Spanned.{Spanned}
use Rattle.xdg_ast.specs.declared.terms.TermKind.{TermKind, out-TermKind}
use Rattle.xdg_ast.specs.declared.terms.ElemKind.{ElemKind}
use Rattle.xdg_ast.specs.declared.terms.ElemKind.TheOpen.{TermKind-F}
use Rattle.xdg_ast.specs.declared.terms.GenKind.{GenKind}
use Rattle.xdg_ast.specs.declared.terms.CardKind.{CardKind}
use Rattle.xdg_ast.specs.declared.terms.CardKind.TheVariants as c
use Rattle.xdg_domain.specs.Shapes as d
use Rattle.xdg_domain.specs.Shapes.{Shape, domain, tuple, truth, integer, text, set, iset, card, valency, mapping, fields, Shapes, Fields, no_field, field_then, sizes, in_a_row, names_of}
use Rattle.xdg_names.specs.First.{Tells, first}
use Rattle.xdg_names.proofs.Listing.{lists_unknown, lists_known, lists_tell}
use Rattle.xdg_terms.specs.Forms.{Term, Card, Look, all_of, bracketed_elem, braces_in, generator_in, constant_of, number_of, card_of, generator_of, bracket_of, constants_of, brackets_of, counts_of, pairs_of}
use Rattle.xdg_terms.specs.Offences.{has_form, has_set_form, asked_in_set, is_some, all_told, Asked, asked_in, asked_in_turn, asked, keys, field_keys, known_fields, cards, keys_of, gen_names, IsWrongKind, IsNotMember, IsOutOfRange, CardOffends, OffendsHere, OfSeen, OffendsIn, OffendsUnder, OffendsBy}
use Rattle.xdg_facts.specs.Onward.{optional}
use Rattle.xdg_terms.specs.Faults as spec
use Rattle.xdg_terms.proofs.Right.{HoldsNone}
use Rattle.xdg_facts.proofs.Texts.{same_text, is_same}
use Rattle.xdg_facts.specs.Membership.{In}
use Rattle.xdg_facts.proofs.Parts.{Lists, lists_none, lists_as, lists_both, lists_each, lists_unless, lists_when, lists_behind}

-- ---- the rules as lists

abbrev asked_faults : List Asked → List Fault
asked_faults = flat_map (λ one. spec.missing causes.NotMember one.0 one.1)

-- one part for each rule
abbrev rows : Bool → Term → List Asked → List (List ℕ) → List Name → List Name → List Card → List Fault
rows form t all known names twice_told written =
    (if form then [] else fault_at causes.WrongKind t.span.start ∷ []) ++ (asked_faults all ++ (spec.all_missing causes.UnknownName known names ++ (spec.all_twice [] twice_told ++ flat_map spec.card_faults written)))

-- what is wrong with the term itself
abbrev here : Shape → Term → List Fault
here s t = rows (has_form s t) t (asked s t) (known_fields s) (field_keys s t) (keys s t) (cards s t)

missing_is : (cause : Cause) (known : List (List ℕ)) (name : Name) → Lists (spec.missing cause known name) (λ f. (In known name.text → ⊥) × (fault_at cause name.span.start ≡ f))
unfolding spec.missing
missing_is cause known name = lists_unknown known name.text (fault_at cause name.span.start)

twice_is : (before : List Name) (name : Name) → Lists (spec.twice before name) (λ f. In (texts before) name.text × (fault_at causes.Twice name.span.start ≡ f))
unfolding spec.twice
twice_is before name = lists_known (texts before) name.text (fault_at causes.Twice name.span.start)

-- ---- cardinalities

too_big_is : (num : Num) → Lists (spec.too_big num) (λ f. (127 < num.value) × (f ≡ fault_at causes.CardRange num.span.start))
unfolding spec.too_big
too_big_is num = lists_as (lists_when (nat_lt 127 num.value) (fault_at causes.CardRange num.span.start)) (λ f. (
  λ e. (ltb-true 127 num.value e.0, sym e.1),
  λ p. (lt-ltb 127 num.value p.0, sym p.1),
))

wrong_end_is : (low high : Num) → Lists (spec.wrong_end low high) (λ f. ((127 < high.value) ⊎ (high.value < low.value)) × (f ≡ fault_at causes.CardRange high.span.start))
unfolding spec.wrong_end
wrong_end_is low high = lists_as (lists_when (nat_lt 127 high.value || nat_lt high.value low.value) (fault_at causes.CardRange high.span.start)) (λ f. (
  λ e. ((elim (or_cases (nat_lt 127 high.value) (nat_lt high.value low.value) e.0) [ inl a ↦ inl (ltb-true 127 high.value a) | inr b ↦ inr (ltb-true high.value low.value b) ]), sym e.1),
  λ p. ((elim p.0 [ inl a ↦ or_left (nat_lt 127 high.value) (nat_lt high.value low.value) (lt-ltb 127 high.value a) | inr b ↦ or_right (nat_lt 127 high.value) (nat_lt high.value low.value) (lt-ltb high.value low.value b) ]), sym p.1),
))

card_kind_is : (written : Card) (kind : CardKind) → Lists (spec.card_kind_faults written kind) (CardOffends written kind)
card_kind_is written (c.Numbers []) = record { sound = λ f h. elim h [ inl e ↦ sym e | inr k ↦ absurd k ]; complete = λ f h. inl (sym h) }
card_kind_is written (c.Numbers (num ∷ nums)) = lists_each spec.too_big (λ big f. (127 < big.value) × (f ≡ fault_at causes.CardRange big.span.start)) (num ∷ nums) (λ big i. too_big_is big)
card_kind_is written (c.Interval low high) = lists_both (too_big_is low) (wrong_end_is low high)
card_kind_is written other = lists_none

card_is : (written : Card) → Lists (spec.card_faults written) (CardOffends written written.kind)
unfolding spec.card_faults
card_is written = card_kind_is written written.kind

-- ---- the term itself

swapped : {V W X Y Z : Type 0} → V ⊎ (W ⊎ (X ⊎ (Y ⊎ Z))) → V ⊎ (W ⊎ (Y ⊎ (X ⊎ Z)))
swapped (inl v) = inl v
swapped (inr (inl w)) = inr (inl w)
swapped (inr (inr (inl x))) = inr (inr (inr (inl x)))
swapped (inr (inr (inr (inl y)))) = inr (inr (inl y))
swapped (inr (inr (inr (inr z)))) = inr (inr (inr (inr z)))

module _ (s : Shape) (t : Term) where
  form_is : Lists (if has_form s t then [] else fault_at causes.WrongKind t.span.start ∷ []) (IsWrongKind s t)
  form_is = lists_as (lists_unless (has_form s t) (fault_at causes.WrongKind t.span.start)) (λ f. (λ e. record { form = e.0; fault = sym e.1 }, λ r. (r.form, sym r.fault)))

  constants_are : Lists (asked_faults (asked s t)) (IsNotMember s t)
  constants_are = lists_as
      (lists_each (λ (one : Asked). spec.missing causes.NotMember one.0 one.1) (λ one f. (In one.0 one.1.text → ⊥) × (fault_at causes.NotMember one.1.span.start ≡ f)) (asked s t) (λ one _. missing_is causes.NotMember one.0 one.1))
      (λ f. (λ k. record { texts = k.0.0; name = k.0.1; stands = k.1.0; missing = k.1.1.0; fault = sym k.1.1.1 }, λ r. ((r.texts, r.name), (r.stands, (r.missing, sym r.fault)))))

  names_are : Lists (spec.all_missing causes.UnknownName (known_fields s) (field_keys s t)) (IsUnknown causes.UnknownName (known_fields s) (field_keys s t))
  names_are = lists_as
      (lists_each (spec.missing causes.UnknownName (known_fields s)) (λ name f. (In (known_fields s) name.text → ⊥) × (fault_at causes.UnknownName name.span.start ≡ f)) (field_keys s t) (λ name _. missing_is causes.UnknownName (known_fields s) name))
      (λ f. (λ k. record { name = k.0; used = k.1.0; missing = k.1.1.0; fault = sym k.1.1.1 }, λ r. (r.name, (r.used, (r.missing, sym r.fault)))))

  keys_are : Lists (spec.all_twice [] (keys s t)) (IsAgain (keys s t))
  keys_are = lists_as
      (lists_behind spec.twice (λ before name f. In (texts before) name.text × (fault_at causes.Twice name.span.start ≡ f)) twice_is spec.all_twice (λ before. refl) (λ before name rest. refl) (keys s t))
      (λ f. (
        λ k. record { before = k.0; name = k.1.0; after = k.1.1.0; parts = k.1.1.1.0; earlier = k.1.1.1.1.0; fault = sym k.1.1.1.1.1 },
        λ r. (r.before, (r.name, (r.after, (r.parts, (r.earlier, sym r.fault))))),
      ))

  cards_are : Lists (flat_map spec.card_faults (cards s t)) (IsOutOfRange s t)
  cards_are = lists_as (lists_each spec.card_faults (λ card f. CardOffends card card.kind f) (cards s t) (λ card i. card_is card)) (λ f. (
    λ k. record { card = k.0; stands = k.1.0; offends = k.1.1 },
    λ r. (r.card, (r.stands, r.offends)),
  ))

  here_is : Lists (here s t) (OffendsHere s t)
  here_is = lists_as (lists_both form_is (lists_both constants_are (lists_both names_are (lists_both keys_are cards_are)))) (λ f. (λ h. swapped h, λ h. swapped h))

-- ---- the list of each type is that of the rules

in_turn : (all : List (List (List ℕ))) (names : List Name) → spec.missing_in_turn all names ≡ asked_faults (asked_in_turn all names)
in_turn [] [] = refl
in_turn [] (name ∷ names) = refl
in_turn (texts ∷ all) [] = refl
in_turn (texts ∷ all) (name ∷ names) = ap (λ fs. spec.missing causes.NotMember texts name ++ fs) (in_turn all names)

nothing_asked : (all : List (List (List ℕ))) → asked_in_turn all [] ≡ []
nothing_asked [] = refl
nothing_asked (texts ∷ all) = refl

in_one : (texts : List (List ℕ)) (names : List Name) → spec.all_missing causes.NotMember texts names ≡ asked_faults (asked_in texts names)
in_one texts names = sym (flat_map-map (λ (one : Asked). spec.missing causes.NotMember one.0 one.1) (λ (name : Name). (texts, name)) names)

constant_by : (texts : List (List ℕ)) (t : Term) (o : Option Name) → spec.formed o (spec.missing causes.NotMember texts) t ≡ rows (is_some o) t (asked_in texts (optional o)) [] [] [] []
constant_by texts t None = refl
constant_by texts t (Some name) = sym (append-nil (spec.missing causes.NotMember texts name ++ []) ∙ append-nil (spec.missing causes.NotMember texts name))

tuple_by : (ss : Shapes) (t : Term) (o : Option (List Name)) → spec.formed o (spec.missing_in_turn (d.constants_of ss)) t ≡ rows (is_some o) t (asked_in_turn (d.constants_of ss) (all_told o)) [] [] [] []
tuple_by ss t None = rw (nothing_asked (d.constants_of ss)) refl
tuple_by ss t (Some names) = in_turn (d.constants_of ss) names ∙ sym (append-nil (asked_faults (asked_in_turn (d.constants_of ss) names)))

anything_by : {A : Type 0} (t : Term) (o : Option A) → spec.formed o (λ x. []) t ≡ rows (is_some o) t [] [] [] [] []
anything_by t None = refl
anything_by t (Some x) = refl

card_by : (t : Term) (o : Option Card) → spec.formed o spec.card_faults t ≡ rows (is_some o) t [] [] [] [] (optional o)
card_by t None = refl
card_by t (Some written) = sym (append-nil (spec.card_faults written))

constants_by : (texts : List (List ℕ)) (t : Term) (o : Option (List Name)) → spec.formed o (spec.all_missing causes.NotMember texts) t ≡ rows (is_some o) t (asked_in texts (all_told o)) [] [] [] []
constants_by texts t None = refl
constants_by texts t (Some names) = in_one texts names ∙ sym (append-nil (asked_faults (asked_in texts names)))

-- sets of tuples, by the layer of the term
abbrev asked_of_tuples : Shapes → Option (List (List Name)) → Option (Spanned GenKind) → List Asked
asked_of_tuples ss rows gen = flat_map (asked_in_turn (d.constants_of ss)) (all_told rows) ++ flat_map (λ (one : Spanned GenKind). asked_in (in_a_row (d.constants_of ss)) (gen_names one.kind)) (optional gen)

all_in_turn : (all : List (List (List ℕ))) (lines : List (List Name)) → flat_map (spec.missing_in_turn all) lines ≡ asked_faults (flat_map (asked_in_turn all) lines)
all_in_turn all [] = refl
all_in_turn all (names ∷ lines) =
    ap₂ (λ (xs ys : List Fault). xs ++ ys) (in_turn all names) (all_in_turn all lines) ∙ sym (flat_map-append (λ (one : Asked). spec.missing causes.NotMember one.0 one.1) (asked_in_turn all names) (flat_map (asked_in_turn all) lines))

bracketed_by : (ss : Shapes) (t : Term) (o : Option (List (List Name))) → spec.either_faults ss o None t ≡ rows (is_some o || false) t (asked_of_tuples ss o None) [] [] [] []
bracketed_by ss t None = refl
bracketed_by ss t (Some lines) =
    all_in_turn (d.constants_of ss) lines ∙ sym (append-nil (asked_faults (flat_map (asked_in_turn (d.constants_of ss)) lines ++ [])) ∙ ap asked_faults (append-nil (flat_map (asked_in_turn (d.constants_of ss)) lines)))

generated_by : (ss : Shapes) (t : Term) (gen : Spanned GenKind) → spec.either_faults ss None (Some gen) t ≡ rows true t (asked_of_tuples ss None (Some gen)) [] [] [] []
generated_by ss t gen =
    let all = asked_in (in_a_row (d.constants_of ss)) (gen_names gen.kind) in
    in_one (in_a_row (d.constants_of ss)) (gen_names gen.kind) ∙ sym (append-nil (asked_faults (all ++ [])) ∙ ap asked_faults (append-nil all))

tuples_layer : (ss : Shapes) (t : Term) (n : ℕ) (l : TermKind-F ElemKind TermKind)
    → spec.either_faults ss (braces_in (bracketed_elem n) l) (generator_in l) t ≡ rows (is_some (braces_in (bracketed_elem n) l) || is_some (generator_in l)) t (asked_of_tuples ss (braces_in (bracketed_elem n) l) (generator_in l)) [] [] [] []
tuples_layer ss t n (TermKind-F.Braces elems) = bracketed_by ss t (all_of (bracketed_elem n) elems)
tuples_layer ss t n (TermKind-F.Gen gen) = generated_by ss t gen
tuples_layer ss t n l = refl

tuples_same : (ss : Shapes) (t : Term) → spec.tuples_faults ss t ≡ rows (has_set_form (tuple ss) t) t (asked_in_set (tuple ss) t) [] [] [] []
unfolding spec.tuples_faults brackets_of generator_of
tuples_same ss t = tuples_layer ss t (length (sizes ss)) (out-TermKind t.kind)

constants_same : (texts : List (List ℕ)) (t : Term) → spec.constants_faults texts t ≡ rows (is_some (constants_of t)) t (asked_in texts (all_told (constants_of t))) [] [] [] []
unfolding spec.constants_faults
constants_same texts t = constants_by texts t (constants_of t)

set_same : (s : Shape) (t : Term) → spec.set_faults s t ≡ rows (has_set_form s t) t (asked_in_set s t) [] [] [] []
set_same (tuple ss) t = tuples_same ss t
set_same s t = constants_same (d.constants s) t

regroup : (xs ys zs : List Fault) → (xs ++ ys) ++ zs ≡ xs ++ (ys ++ zs)
regroup xs ys zs = append_assoc xs ys zs

valency_by : (texts : List (List ℕ)) (t : Term) (o : Option (List (Name × Card)))
    → spec.formed o (λ pairs. spec.keys_faults causes.NotMember texts (spec.keys_in pairs) ++ flat_map (λ pair. spec.card_faults pair.1) pairs) t ≡ rows (is_some o) t (asked_in texts (keys_of o)) [] [] (keys_of o) (map (λ pair. pair.1) (all_told o))
valency_by texts t None = refl
valency_by texts t (Some pairs) =
    let names = spec.keys_in pairs in
    regroup (spec.all_missing causes.NotMember texts names) (spec.all_twice [] names) (flat_map (λ (pair : Name × Card). spec.card_faults pair.1) pairs)
    ∙ ap₂ (λ (xs ys : List Fault). xs ++ (spec.all_twice [] names ++ ys)) (in_one texts names) (sym (flat_map-map spec.card_faults (λ (pair : Name × Card). pair.1) pairs))

-- of types whose terms hold no others
plain_same : (look : Look) (s : Shape) (t : Term) → HoldsNone s → spec.faults_in look s t ≡ here s t
unfolding spec.constant_faults spec.tuple_faults spec.number_faults spec.text_faults spec.cardinality_faults spec.valency_faults
plain_same look (domain cs) t none = constant_by cs t (constant_of t)
plain_same look (tuple ss) t none = tuple_by ss t (bracket_of (length (sizes ss)) t)
plain_same look truth t none = constant_by spec.truth_texts t (constant_of t)
plain_same look integer t none = anything_by t (number_of t)
plain_same look text t none = anything_by t (constant_of t)
plain_same look (set s) t none = set_same s t
plain_same look (iset s) t none = set_same s t
plain_same look card t none = card_by t (card_of t)
plain_same look (valency k) t none = valency_by (d.constants k) t (counts_of t)
plain_same look s t none = absurd none

-- with what is wrong inside
mapping_by : (texts : List (List ℕ)) (inside : Name × Term → List Fault) (t : Term) (o : Option (List (Name × Term)))
    → spec.formed o (λ pairs. spec.keys_faults causes.NotMember texts (spec.keys_in pairs) ++ flat_map inside pairs) t ≡ rows (is_some o) t (asked_in texts (keys_of o)) [] [] (keys_of o) [] ++ flat_map inside (all_told o)
mapping_by texts inside t None = refl
mapping_by texts inside t (Some pairs) =
    let names = spec.keys_in pairs in
    ap₂ (λ (xs ys : List Fault). (xs ++ ys) ++ flat_map inside pairs) (in_one texts names) (sym (append-nil (spec.all_twice [] names)))

record_by : (known : List (List ℕ)) (inside : Name × Term → List Fault) (t : Term) (o : Option (List (Name × Term)))
    → spec.formed o (λ pairs. spec.keys_faults causes.UnknownName known (spec.keys_in pairs) ++ flat_map inside pairs) t ≡ rows (is_some o) t [] known (keys_of o) (keys_of o) [] ++ flat_map inside (all_told o)
record_by known inside t None = refl
record_by known inside t (Some pairs) =
    let names = spec.keys_in pairs in
    ap (λ (ys : List Fault). (spec.all_missing causes.UnknownName known names ++ ys) ++ flat_map inside pairs) (sym (append-nil (spec.all_twice [] names)))

-- ---- all offences

seen_is : (rule : Term → List Fault) (P : Term → Fault → Type 0) → ((t : Term) → Lists (rule t) (P t)) → (o : Option Term) → Lists (spec.of_seen o rule) (λ f. OfSeen o (λ t. P t f))
seen_is rule P each None = lists_none
seen_is rule P each (Some t) = each t

abbrev of_field : Look → List ℕ → Shape → Fields → Name × Term → Bool → List Fault
of_field look name u fs pair b = if b then spec.faults look u pair.1 else spec.field_faults look fs pair

mutual
  told : (look : Look) (s : Shape) (t : Term) → Lists (spec.faults_in look s t) (OffendsIn look s t)
  told look (mapping k u) t =
      let inside = λ (pair : Name × Term). spec.faults look u pair.1 in
      subst (λ xs. Lists xs (OffendsIn look (mapping k u) t)) (sym (mapping_by (d.constants k) inside t (pairs_of t)))
      (lists_both (here_is (mapping k u) t) (lists_each inside (λ pair f. OfSeen (look pair.1) (λ w. OffendsIn look u w f)) (all_told (pairs_of t))
      (λ pair i. seen_is (spec.faults_in look u) (λ w f. OffendsIn look u w f) (λ w. told look u w) (look pair.1))))
  told look (fields fs) t =
      let inside = λ (pair : Name × Term). spec.field_faults look fs pair in
      subst (λ xs. Lists xs (OffendsIn look (fields fs) t)) (sym (record_by (names_of fs) inside t (pairs_of t)))
      (lists_both (here_is (fields fs) t) (lists_each inside (λ pair f. OffendsUnder look fs pair f) (all_told (pairs_of t)) (λ pair i. under look fs pair)))
  told look s t = subst (λ xs. Lists xs (OffendsIn look s t)) (sym (plain_same look s t tt)) (here_is s t)

  under : (look : Look) (fs : Fields) (pair : Name × Term) → Lists (spec.field_faults look fs pair) (OffendsUnder look fs pair)
  under look no_field pair = lists_none
  under look (field_then name u fs) pair =
      elim (bytes_eq name pair.0.text) as (λ b. bytes_eq name pair.0.text ≡ b → Lists (of_field look name u fs pair b) (OffendsUnder look (field_then name u fs) pair)) [
        | true ↦ λ is. lists_as (seen_is (spec.faults_in look u) (λ w f. OffendsIn look u w f) (λ w. told look u w) (look pair.1)) (λ f. (
          λ k. inl (same_text name pair.0.text is, k),
          λ h. elim h [ inl a ↦ a.1 | inr b ↦ absurd (b.0 (same_text name pair.0.text is)) ],
        ))
        | false ↦ λ is. lists_as (under look fs pair) (λ f. (
          λ k. inr ((λ e. true≢false (sym (is_same name pair.0.text e) ∙ is)), k),
          λ h. elim h [ inl a ↦ absurd (true≢false (sym (is_same name pair.0.text a.0) ∙ is)) | inr b ↦ b.1 ],
        ))
      ] refl

pub law : (look : Look) (s : Shape) (t : Term) (found : Option Fault) → found ≡ first (spec.faults look s t) → Tells (OffendsBy look s t) found
law look s t found is =
    subst (Tells (OffendsBy look s t)) (sym is) (lists_tell (spec.faults look s t) (seen_is (spec.faults_in look s) (λ w f. OffendsIn look s w f) (λ w. told look s w) (look t)))

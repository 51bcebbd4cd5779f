-- The value of a term without an offence is what the term means, and a value of the type.
use Rattle.std.proofs.Common.{◌≡◌, inl, inr, ℕ, ◌≤◌, ◌+◌, zero, suc, List, [], ◌∷◌, length, map, Option, Some, None, unwrap_or, codes, refl, sym, ap, ◌∙◌, subst, arith}
use Rattle.std.specs.Prelude.{Bool, true, false, bytes_eq, Result, Ok, Err, IfOk}
use Rattle.std.specs.declared.alloc.AllocError.{AllocError}
use Rattle.std.proofs.lemmas.Bool.{true≢false}
use Rattle.xdg_base.specs.declared.faults.Fault.{Fault}
use Rattle.xdg_ast.specs.declared.names.Name.{Name}
use Rattle.xdg_domain.specs.Cards.{IsCards}
use Rattle.xdg_domain.specs.Valencies.{said_at, KeysRise}
use Rattle.xdg_domain.specs.Shapes as d
use Rattle.xdg_domain.specs.Shapes.{Shape, domain, tuple, truth, integer, text, set, iset, card, valency, mapping, fields, Shapes, Fields, no_field, field_then, sizes, count, constants, constants_of, IsDomain, IsSmall, IsMapped, IsType, AreTypes}
use Rattle.xdg_domain.specs.Tuples.{index}
use Rattle.xdg_domain.specs.Values.{EachSaid, IsIn, IsFieldOf, IsValue}
use Rattle.xdg_domain.specs.declared.values.Value.{Value, out-Value}
use Rattle.xdg_domain.specs.declared.values.Value.TheVariants as v
use Rattle.xdg_domain.specs.declared.values.Value.TheOpen.{Value-F}
use Rattle.xdg_domain.proofs.DefaultLaws.{each_wider}
use Rattle.xdg_terms.specs.Forms.{Term, Card, Bindings, bound, constant_of, number_of, card_of, bracket_of, counts_of, pairs_of, counted_elem, keyed_elem}
use Rattle.xdg_terms.specs.Offences.{all_told, asked_in, asked_in_turn, Offends, OffendsField}
use Rattle.xdg_facts.specs.Onward.{optional}
use Rattle.xdg_terms.specs.Means.{IsAt, truth_text, AllowedBy, written_for, Said, MeansIn, MeansField, Means}
use Rattle.xdg_terms.specs.Answers.{IsRight}
use Rattle.xdg_terms.specs.Fitting.{FitsIn, FitsField, Fits}
use Rattle.xdg_names.proofs.Texts.{place_of-Some}
use Rattle.xdg_terms.specs.Built.{Elem, number_named, text_named, number_of_places, tuple_number, names_of, elems_of, first_for, set_of, card_numbers, numbers_of_card, put, said_from, built, fields_from}
use Rattle.xdg_terms.proofs.Right.{RightHere, formed, told, stands, card_right, allowed}
use Rattle.xdg_terms.proofs.Read.{bracket_read, same_first, written}
use Rattle.xdg_terms.proofs.Meant.{all_places, TupleOf, tuple_of_places}
use Rattle.xdg_terms.proofs.Lawful.{set_law, set_below, counts_read, pairs_read}
use Rattle.xdg_terms.proofs.SaidKeys.{made_of, put_rises, put_here, put_later, said_made, from_rises, keys_said, keys_each}
use Rattle.xdg_facts.proofs.Texts.{same_text, is_same}
use Rattle.xdg_facts.specs.Membership.{In, Differ}
use Rattle.xdg_facts.proofs.In.{map_in, among_at}

-- the term means the value, which is one of the type where its numbers are in range
abbrev pub GoodIn : Bindings → Shape → Term → Value-F Value → Type 0
GoodIn bs s t x = MeansIn bs s t x × (FitsIn s x → IsIn s x)

as_out : (bs : Bindings) (s : Shape) (t : Term) (w : Value) (x : Value-F Value) → out-Value w ≡ x → GoodIn bs s t x → GoodIn bs s t (out-Value w)
as_out bs s t w x e g = subst (GoodIn bs s t) (sym e) g

-- ---- terms that hold no others

domain_good : (bs : Bindings) (cs : List (List ℕ)) (t : Term) → RightHere (domain cs) t → GoodIn bs (domain cs) t (Value-F.Const (number_named cs (constant_of t)))
domain_good bs cs t h =
    let r = told (constant_of t) (formed (domain cs) t h) in
    let s = stands (domain cs) t cs r.0 h (subst (λ o. In (asked_in cs (optional o)) (cs, r.0)) (sym r.1) (inl refl)) in
    let e : number_named cs (constant_of t) ≡ s.0 = ap (number_named cs) r.1 ∙ ap (λ o. unwrap_or o 0) s.1 in
    let p : IsAt cs (number_named cs (constant_of t)) (r.0).text = subst (λ n. IsAt cs n (r.0).text) (sym e) (place_of-Some cs (r.0).text s.0 s.1) in
    ((r.0, (r.1, p)), λ _. p.0)

tuple_good : (bs : Bindings) (ss : Shapes) (t : Term) → RightHere (tuple ss) t → GoodIn bs (tuple ss) t (Value-F.Tuple (unwrap_or (tuple_number (tuple ss) (names_of t)) 0))
tuple_good bs ss t h =
    let r = told (bracket_of (length (sizes ss)) t) (formed (tuple ss) t h) in
    let b = bracket_read (length (sizes ss)) t r.0 r.1 in
    let all = all_places [] ss r.0 b.1 (λ texts name among. stands (tuple ss) t texts name h (subst (λ o. In (asked_in_turn (constants_of ss) (all_told o)) (texts, name)) (sym r.1) among)) in
    let e : unwrap_or (tuple_number (tuple ss) (names_of t)) 0 ≡ index (sizes ss) all.0 = ap (λ names. unwrap_or (tuple_number (tuple ss) names) 0) b.0 ∙ ap (λ o. unwrap_or (number_of_places ss o) 0) all.1 in
    let p : TupleOf ss r.0 (unwrap_or (tuple_number (tuple ss) (names_of t)) 0) = subst (TupleOf ss r.0) (sym e) (tuple_of_places ss r.0 all.0 all.1) in
    ((p.within, (r.0, (r.1, p.texts))), λ _. p.within)

truth_told : (t : List ℕ) (b : Bool) → bytes_eq t (codes "true") ≡ b → In (codes "true" ∷ codes "false" ∷ []) t → t ≡ truth_text b
truth_told t true e h = same_text t (codes "true") e
truth_told t false e h = elim h [ inl is ↦ absurd (true≢false (sym (is_same t (codes "true") (sym is)) ∙ e)) | inr k ↦ elim k [ inl is ↦ sym is | inr none ↦ absurd none ] ]

truth_good : (bs : Bindings) (t : Term) → RightHere truth t → GoodIn bs truth t (Value-F.Bool (bytes_eq (text_named (constant_of t)) (codes "true")))
truth_good bs t h =
    let texts = codes "true" ∷ codes "false" ∷ [] in
    let r = told (constant_of t) (formed truth t h) in
    let s = stands truth t texts r.0 h (subst (λ o. In (asked_in texts (optional o)) (texts, r.0)) (sym r.1) (inl refl)) in
    let p = place_of-Some texts (r.0).text s.0 s.1 in
    let e : bytes_eq (r.0).text (codes "true") ≡ bytes_eq (text_named (constant_of t)) (codes "true") = sym (ap (λ o. bytes_eq (text_named o) (codes "true")) r.1) in
    ((r.0, (r.1, truth_told (r.0).text (bytes_eq (text_named (constant_of t)) (codes "true")) e (among_at texts s.0 (r.0).text p.0 p.1))), λ _. tt)

integer_good : (bs : Bindings) (t : Term) → RightHere integer t → GoodIn bs integer t (Value-F.Int (unwrap_or (number_of t) 0))
integer_good bs t h = let r = told (number_of t) (formed integer t h) in (r.1 ∙ ap (λ n. Some n) (sym (ap (λ o. unwrap_or o 0) r.1)), λ fits. fits)

text_good : (bs : Bindings) (t : Term) → RightHere text t → GoodIn bs text t (Value-F.Str (text_named (constant_of t)))
text_good bs t h = let r = told (constant_of t) (formed text t h) in ((r.0, (r.1, sym (ap text_named r.1))), λ _. tt)

card_good : (bs : Bindings) (t : Term) → RightHere card t → GoodIn bs card t (Value-F.Card (numbers_of_card (card_of t)))
card_good bs t h =
    let r = told (card_of t) (formed card t h) in
    let a : AllowedBy r.0 (numbers_of_card (card_of t)) = subst (AllowedBy r.0) (sym (ap numbers_of_card r.1)) (allowed r.0 (card_right card t r.0 h (subst (λ o. In (optional o) r.0) (sym r.1) (inl refl)))) in
    ((r.0, (r.1, a)), λ _. a.0)

set_good : (bs : Bindings) (s : Shape) (t : Term) → IsSmall s → RightHere (set s) t → GoodIn bs (set s) t (Value-F.Set (set_of s t))
set_good bs s t small h = let law = set_law s t small (formed (set s) t h) (λ texts name among. stands (set s) t texts name h among) in (law, λ _. set_below s t (set_of s t) law)

iset_good : (bs : Bindings) (s : Shape) (t : Term) → IsSmall s → RightHere (iset s) t → GoodIn bs (iset s) t (Value-F.Set (set_of s t))
iset_good bs s t small h = let law = set_law s t small (formed (iset s) t h) (λ texts name among. stands (iset s) t texts name h among) in (law, λ _. set_below s t (set_of s t) law)

domain_count : (k : Shape) → IsDomain k → length (constants k) ≤ count k
domain_count (domain cs) h = omega arith
domain_count k h = absurd h

valency_good : (bs : Bindings) (k : Shape) (t : Term) → IsDomain k → RightHere (valency k) t → GoodIn bs (valency k) t (Value-F.Valency (said_from (λ (w : Card). card_numbers w.kind) (first_for counted_elem (elems_of t)) 0 (constants k)))
valency_good bs k t type h =
    let make : Card → List ℕ = λ w. card_numbers w.kind in
    let find : List ℕ → Option Card = first_for counted_elem (elems_of t) in
    let r = told (counts_of t) (formed (valency k) t h) in
    let pairs : List (Name × Card) = all_told (counts_of t) in
    let is : counts_of t ≡ Some pairs = r.1 ∙ ap (λ z. Some z) (sym (ap all_told r.1)) in
    let same : (name : List ℕ) → find name ≡ written_for pairs name = same_first counted_elem (elems_of t) pairs (counts_read t pairs is) in
    let each : (name : List ℕ) (w : Card) → written_for pairs name ≡ Some w → AllowedBy w (make w) =
    λ name w e. (let q = written pairs name w e in allowed w (card_right (valency k) t w h (subst (In (map (λ (pair : Name × Card). pair.1) pairs)) q.value (map_in (λ (pair : Name × Card). pair.1) pairs q.pair q.among)))) in
    let rises : KeysRise 0 (said_from make find 0 (constants k)) = from_rises AllowedBy make find 0 (constants k) in
    ((rises, keys_said AllowedBy make find pairs (constants k) same each), λ _. (rises, keys_each IsCards make find pairs same (λ name w e. (each name w e).0) (count k) (constants k) (domain_count k type)))

-- ---- maps and records

fits_mapped : (u : Shape) (x : Value-F Value) → IsMapped u → FitsIn u x
fits_mapped (set s) x h = tt
fits_mapped (iset s) x h = tt
fits_mapped card x h = tt
fits_mapped (valency k) x h = tt
fits_mapped (mapping k u) x h = tt
fits_mapped u x h = absurd h

put_weaker : {A V : Type 0} (P Q : ℕ → V → Type 0) (make : A → V) (at : ℕ) (rest : List (ℕ × V)) (o : Option A) → (EachSaid P rest → EachSaid Q rest) → ((w : A) → o ≡ Some w → P at (make w) → Q at (make w)) → EachSaid P (put make at o rest) → EachSaid Q (put make at o rest)
put_weaker P Q make at rest None later here h = later h
put_weaker P Q make at rest (Some w) later here h = (here w refl h.0, later h.1)

fields_rise : (bs : Bindings) (fs : Fields) (elems : List Elem) (at : ℕ) → KeysRise at (fields_from bs fs elems at)
fields_rise bs no_field elems at = tt
fields_rise bs (field_then name u fs) elems at = put_rises (λ (w : Term). built bs u w) at (fields_from bs fs elems (at + 1)) (first_for keyed_elem elems name) (fields_rise bs fs elems (at + 1))

offends_among : (bs : Bindings) (fs : Fields) (pair : Name × Term) (f : Fault) → OffendsField bs fs pair f → In (d.names_of fs) (pair.0).text
offends_among bs no_field pair f h = absurd h
offends_among bs (field_then name u fs) pair f h = elim h [ inl a ↦ inl a.0 | inr b ↦ inr (offends_among bs fs pair f b.1) ]

-- no field of these has an offence
abbrev FieldsRight : Bindings → Fields → List (Name × Term) → Type 0
FieldsRight bs fs pairs = (pair : Name × Term) (f : Fault) → In pairs pair → OffendsField bs fs pair f → ⊥

later_right : (bs : Bindings) (name : List ℕ) (u : Shape) (fs : Fields) (pairs : List (Name × Term)) → (In (d.names_of fs) name → ⊥) → FieldsRight bs (field_then name u fs) pairs → FieldsRight bs fs pairs
later_right bs name u fs pairs other right pair f among bad = right pair f among (inr ((λ e. other (subst (In (d.names_of fs)) (sym e) (offends_among bs fs pair f bad))), bad))

first_right : (bs : Bindings) (name : List ℕ) (u : Shape) (fs : Fields) (pairs : List (Name × Term)) (w : Term) → FieldsRight bs (field_then name u fs) pairs → written_for pairs name ≡ Some w → IsRight bs u w
first_right bs name u fs pairs w right e f bad = let q = written pairs name w e in right q.pair f q.among (inl (sym q.key, subst (λ z. Offends bs u z f) (sym q.value) bad))

-- a field's value, with its place counted from `at`
abbrev FieldFrom : (Fields → ℕ → Value → Type 0) → Fields → ℕ → ℕ → Value → Type 0
FieldFrom P fs at key x = (j : ℕ) × ((key ≡ at + j) × P fs j x)

abbrev EachFrom : Fields → ℕ → ℕ → Value → Type 0
EachFrom fs at key x = (j : ℕ) → key ≡ at + j → FitsField fs j x

mutual
  pub law : (bs : Bindings) (s : Shape) (t : Term) → IsType s → IsRight bs s t → GoodIn bs s (bound bs t) (out-Value (built bs s t))
  law bs (domain cs) t type right = as_out bs (domain cs) (bound bs t) (built bs (domain cs) t) _ (v.outs-Const _) (domain_good bs cs (bound bs t) right)
  law bs (tuple ss) t type right = as_out bs (tuple ss) (bound bs t) (built bs (tuple ss) t) _ (v.outs-Tuple _) (tuple_good bs ss (bound bs t) right)
  law bs truth t type right = as_out bs truth (bound bs t) (built bs truth t) _ (v.outs-Bool _) (truth_good bs (bound bs t) right)
  law bs integer t type right = as_out bs integer (bound bs t) (built bs integer t) _ (v.outs-Int _) (integer_good bs (bound bs t) right)
  law bs text t type right = as_out bs text (bound bs t) (built bs text t) _ (v.outs-Str _) (text_good bs (bound bs t) right)
  law bs (set s) t type right = as_out bs (set s) (bound bs t) (built bs (set s) t) _ (v.outs-Set _) (set_good bs s (bound bs t) type right)
  law bs (iset s) t type right = as_out bs (iset s) (bound bs t) (built bs (iset s) t) _ (v.outs-Set _) (iset_good bs s (bound bs t) type right)
  law bs card t type right = as_out bs card (bound bs t) (built bs card t) _ (v.outs-Card _) (card_good bs (bound bs t) right)
  law bs (valency k) t type right = as_out bs (valency k) (bound bs t) (built bs (valency k) t) _ (v.outs-Valency _) (valency_good bs k (bound bs t) type right)
  law bs (mapping k u) t type right =
      let inner : Term = bound bs t in
      let here : RightHere (mapping k u) inner = λ f bad. right f (inl bad) in
      let make : Term → Value = λ w. built bs u w in
      let find : List ℕ → Option Term = first_for keyed_elem (elems_of inner) in
      let r = told (pairs_of inner) (formed (mapping k u) inner here) in
      let pairs : List (Name × Term) = all_told (pairs_of inner) in
      let is : pairs_of inner ≡ Some pairs = r.1 ∙ ap (λ z. Some z) (sym (ap all_told r.1)) in
      let same : (name : List ℕ) → find name ≡ written_for pairs name = same_first keyed_elem (elems_of inner) pairs (pairs_read inner pairs is) in
      let each : (name : List ℕ) (w : Term) → written_for pairs name ≡ Some w → GoodIn bs u (bound bs w) (out-Value (make w)) =
      λ name w e. (let q = written pairs name w e in law bs u w type.1.1 (λ f bad. right f (inr (q.pair, (q.among, subst (λ z. Offends bs u z f) (sym q.value) bad))))) in
      let P : Term → Value → Type 0 = λ w x. MeansIn bs u (bound bs w) (out-Value x) in
      let rises : KeysRise 0 (said_from make find 0 (constants k)) = from_rises P make find 0 (constants k) in
      as_out bs (mapping k u) inner (built bs (mapping k u) t) _ (v.outs-Map _) (
        (rises, keys_said P make find pairs (constants k) same (λ name w e. (each name w e).0)),
        λ _. (rises, keys_each (λ x. IsIn u (out-Value x)) make find pairs same (λ name w e. (each name w e).1 (fits_mapped u (out-Value (make w)) type.1.0)) (count k) (constants k) (domain_count k type.0)),
      )
  law bs (fields fs) t type right =
      let inner : Term = bound bs t in
      let here : RightHere (fields fs) inner = λ f bad. right f (inl bad) in
      let elems : List Elem = elems_of inner in
      let r = told (pairs_of inner) (formed (fields fs) inner here) in
      let pairs : List (Name × Term) = all_told (pairs_of inner) in
      let is : pairs_of inner ≡ Some pairs = r.1 ∙ ap (λ z. Some z) (sym (ap all_told r.1)) in
      let same : (name : List ℕ) → first_for keyed_elem elems name ≡ written_for pairs name = same_first keyed_elem elems pairs (pairs_read inner pairs is) in
      let each : FieldsRight bs fs pairs = λ pair f among bad. right f (inr (pair, (among, bad))) in
      let rises = fields_rise bs fs elems 0 in
      as_out bs (fields fs) inner (built bs (fields fs) t) _ (v.outs-Rec _) (
        (rises, λ key. (let e : 0 + key ≡ key = omega arith in subst (λ j. MeansField bs fs pairs key (said_at (fields_from bs fs elems 0) j)) e (fields_law bs fs elems pairs 0 type.0 type.1 same each key))),
        λ fits. (
          rises,
          each_wider (FieldFrom IsFieldOf fs 0) (IsFieldOf fs) (λ key x h. (let e : h.0 ≡ key = omega (arith, h.1.0) in subst (λ j. IsFieldOf fs j x) e h.1.1)) (fields_from bs fs elems 0)
              (fields_value bs fs elems pairs 0 type.0 type.1 same each (each_wider (FitsField fs) (EachFrom fs 0) (λ key x h j is. (let e : key ≡ j = omega (arith, is) in subst (λ i. FitsField fs i x) e h)) (fields_from bs fs elems 0) fits)),
        ),
      )

  fields_law : (bs : Bindings) (fs : Fields) (elems : List Elem) (pairs : List (Name × Term)) (at : ℕ) → Differ (d.names_of fs) → AreTypes fs → ((name : List ℕ) → first_for keyed_elem elems name ≡ written_for pairs name) → FieldsRight bs fs pairs → (key : ℕ)
      → MeansField bs fs pairs key (said_at (fields_from bs fs elems at) (at + key))
  fields_law bs no_field elems pairs at differ types same right key = refl
  fields_law bs (field_then name u fs) elems pairs at differ types same right zero =
      let make : Term → Value = λ w. built bs u w in
      let P : Term → Value → Type 0 = λ w x. MeansIn bs u (bound bs w) (out-Value x) in
      subst (Said P (written_for pairs name)) (sym (put_here make at (fields_from bs fs elems (at + 1)) (first_for keyed_elem elems name) (fields_rise bs fs elems (at + 1)) ∙ ap (made_of make) (same name)))
      (said_made P make (written_for pairs name) (λ w e. (law bs u w types.0 (first_right bs name u fs pairs w right e)).0))
  fields_law bs (field_then name u fs) elems pairs at differ types same right (suc key) =
      subst (MeansField bs fs pairs key) (sym (put_later (λ (w : Term). built bs u w) at (fields_from bs fs elems (at + 1)) (first_for keyed_elem elems name) key))
      (fields_law bs fs elems pairs (at + 1) differ.1 types.1 same (later_right bs name u fs pairs differ.0 right) key)

  fields_value : (bs : Bindings) (fs : Fields) (elems : List Elem) (pairs : List (Name × Term)) (at : ℕ) → Differ (d.names_of fs) → AreTypes fs → ((name : List ℕ) → first_for keyed_elem elems name ≡ written_for pairs name) → FieldsRight bs fs pairs
      → EachSaid (EachFrom fs at) (fields_from bs fs elems at) → EachSaid (FieldFrom IsFieldOf fs at) (fields_from bs fs elems at)
  fields_value bs no_field elems pairs at differ types same right fits = tt
  fields_value bs (field_then name u fs) elems pairs at differ types same right fits =
      let make : Term → Value = λ w. built bs u w in
      let rest = fields_from bs fs elems (at + 1) in
      put_weaker (EachFrom (field_then name u fs) at) (FieldFrom IsFieldOf (field_then name u fs) at) make at rest (first_for keyed_elem elems name)
      (λ h. each_wider (FieldFrom IsFieldOf fs (at + 1)) (FieldFrom IsFieldOf (field_then name u fs) at) (λ key x k. (suc k.0, (omega (arith, k.1.0), k.1.1))) rest
      (fields_value bs fs elems pairs (at + 1) differ.1 types.1 same (later_right bs name u fs pairs differ.0 right)
      (each_wider (EachFrom (field_then name u fs) at) (EachFrom fs (at + 1)) (λ key x k j is. k (suc j) (omega (arith, is))) rest h)))
      (λ w e h. (0, (omega arith, (law bs u w types.0 (first_right bs name u fs pairs w right (sym (same name) ∙ e))).1 (h 0 (omega arith)))))
      fits

-- ---- what a call gives

pub means_of : (bs : Bindings) (s : Shape) (t : Term) (r : Result Value AllocError) → IsType s → IsRight bs s t → IfOk r (λ x. x ≡ built bs s t) → IfOk r (λ x. Means bs s t x)
means_of bs s t (Ok x) type right is = subst (Means bs s t) (sym is) (law bs s t type right).0
means_of bs s t (Err e) type right is = tt

pub value_of : (bs : Bindings) (s : Shape) (t : Term) (r : Result Value AllocError) → IsType s → IsRight bs s t → IfOk r (λ x. x ≡ built bs s t) → IfOk r (λ x. Fits s x) → IfOk r (λ x. IsValue s x)
value_of bs s t (Ok x) type right is fits = subst (IsValue s) (sym is) ((law bs s t type right).1 (subst (Fits s) is fits))
value_of bs s t (Err e) type right is fits = tt

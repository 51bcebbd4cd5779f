-- The value of a term without an offence is what the term means, and a value of the type.
use Rattle.std.proofs.Common.{◌≡◌, inl, inr, ℕ, ◌<◌, List, [], ◌∷◌, ◌++◌, length, get_or, Option, Some, None, refl, sym, ap, ap₂, ◌∙◌, subst, arith}
use Rattle.std.specs.Prelude.{◌↔◌, true}
use Rattle.xdg_ast.specs.declared.names.Name.{Name}
use Rattle.xdg_ast.specs.declared.names.Spanned.{Spanned}
use Rattle.xdg_ast.specs.declared.terms.ElemKind.{ElemKind}
use Rattle.xdg_domain.specs.Shapes.{domain, tuple, Shapes, no_shape, shape_then, sizes, product, constants, constants_of, AreDomains, IsTuple}
use Rattle.xdg_domain.specs.Tuples.{index, places, InRange}
use Rattle.xdg_domain.proofs.TupleNumbers.{index_below, places_of_index, index_of_places, places_in_range}
use Rattle.xdg_terms.specs.Forms.{all_of, plain_elem, bracketed_elem}
use Rattle.xdg_terms.specs.Offences.{asked_in_turn}
use Rattle.xdg_terms.specs.Means.{chosen, tuple_texts}
use Rattle.xdg_names.specs.Texts.{place_of}
use Rattle.xdg_names.proofs.Texts.{place_of-Some}
use Rattle.xdg_terms.specs.Built.{places_behind, number_of_places, tuple_number, listed}
use Rattle.xdg_terms.proofs.Placing.{are_chosen}
use Rattle.xdg_terms.proofs.Right.{Stands}
use Rattle.xdg_terms.proofs.Read.{listed_numbers, numbers_listed, plain_alike, bracketed_alike, each_long}
use Rattle.xdg_facts.specs.Membership.{In, Differ}
use Rattle.xdg_facts.proofs.In.{in_map, map_in, one_place}
use Rattle.xdg_facts.specs.Rises.{has}
use Rattle.xdg_domain.proofs.Constants.{domain_differs}
use Rattle.xdg_ast.specs.Texts.{texts as texts_of}

-- ---- tuples

-- each of these names stands in the domain of its place
abbrev pub AllStand : Shapes → List Name → Type 0
AllStand ss names = (texts : List (List ℕ)) (name : Name) → In (asked_in_turn (constants_of ss) names) (texts, name) → Stands texts name

pub all_places : (found : List ℕ) (ss : Shapes) (names : List Name) → length names ≡ length (sizes ss) → AllStand ss names → (ns : List ℕ) × (places_behind found (constants_of ss) names ≡ Some ns)
all_places found no_shape [] same h = (found, refl)
all_places found no_shape (name ∷ names) same h = absurd (omega (arith, same))
all_places found (shape_then s ss) [] same h = absurd (omega (arith, same))
all_places found (shape_then s ss) (name ∷ names) same h =
    let one = h (constants s) name (inl refl) in
    let rest = all_places (found ++ one.0 ∷ []) ss names (omega (arith, same)) (λ texts other among. h texts other (inr among)) in
    (rest.0, ap (λ (o : Option ℕ). elim o [ None ↦ None | Some m ↦ places_behind (found ++ m ∷ []) (constants_of ss) names ]) one.1 ∙ rest.1)

-- the tuple with these constants has that number
pub record TupleOf (ss : Shapes) (names : List Name) (n : ℕ) : Type 0 where
  pub within : n < product (sizes ss)
  pub texts : tuple_texts ss n ≡ texts_of names

pub tuple_of_places : (ss : Shapes) (names : List Name) (ns : List ℕ) → places_behind [] (constants_of ss) names ≡ Some ns → TupleOf ss names (index (sizes ss) ns)
tuple_of_places ss names ns h =
    let c = are_chosen [] ss names ns h in
    let range : InRange (sizes ss) ns = subst (InRange (sizes ss)) (sym c.parts) c.range in
    record { within = index_below (sizes ss) ns range; texts = ap (chosen (constants_of ss)) (places_of_index (sizes ss) ns range ∙ c.parts) ∙ c.texts }

pub tuple_of_number : (ss : Shapes) (names : List Name) (n : ℕ) (o : Option (List ℕ)) → places_behind [] (constants_of ss) names ≡ o → number_of_places ss o ≡ Some n → TupleOf ss names n
tuple_of_number ss names n None e h = absurd (cc)
tuple_of_number ss names n (Some ns) e h = let same : index (sizes ss) ns ≡ n = cc in subst (TupleOf ss names) same (tuple_of_places ss names ns e)

pub same_chosen : (ss : Shapes) (ms ns : List ℕ) → AreDomains ss → InRange (sizes ss) ms → InRange (sizes ss) ns → chosen (constants_of ss) ms ≡ chosen (constants_of ss) ns → ms ≡ ns
same_chosen no_shape [] [] h r q e = refl
same_chosen no_shape [] (n ∷ ns) h r q e = absurd q
same_chosen no_shape (m ∷ ms) ns h r q e = absurd r
same_chosen (shape_then s ss) [] ns h r q e = absurd r
same_chosen (shape_then s ss) (m ∷ ms) [] h r q e = absurd q
same_chosen (shape_then s ss) (m ∷ ms) (n ∷ ns) h r q e =
    let here : get_or (constants s) m [] ≡ get_or (constants s) n [] = cc in
    let rest : chosen (constants_of ss) ms ≡ chosen (constants_of ss) ns = cc in
    ap₂ (λ (k : ℕ) (ks : List ℕ). k ∷ ks) (one_place (constants s) m n (domain_differs s h.0) r.0 q.0 here) (same_chosen ss ms ns h.1 r.1 q.1 rest)

-- and it is the only one
pub number_of_tuple : (ss : Shapes) (names : List Name) (n : ℕ) → IsTuple ss → length names ≡ length (sizes ss) → AllStand ss names → n < product (sizes ss) → tuple_texts ss n ≡ texts_of names → tuple_number (tuple ss) names ≡ Some n
number_of_tuple ss names n type same h within texts =
    let all = all_places [] ss names same h in
    let c = are_chosen [] ss names all.0 all.1 in
    let range : InRange (sizes ss) all.0 = subst (InRange (sizes ss)) (sym c.parts) c.range in
    let alike : all.0 ≡ places (sizes ss) n = same_chosen ss all.0 (places (sizes ss) n) type.domains range (places_in_range (sizes ss) n within) (ap (chosen (constants_of ss)) c.parts ∙ c.texts ∙ sym texts) in
    ap (number_of_places ss) all.1 ∙ ap (λ ms. Some (index (sizes ss) ms)) alike ∙ ap (λ z. Some z) (index_of_places (sizes ss) n within)

-- ---- sets

pub domain_set : (cs : List (List ℕ)) (elems : List (Spanned ElemKind)) (names : List Name) → Differ cs → all_of plain_elem elems ≡ Some names → ((name : Name) → In names name → Stands cs name) → (n : ℕ)
    → (has (listed (domain cs) elems) n ≡ true) ↔ ((n < length cs) × In (texts_of names) (get_or cs n []))
domain_set cs elems names differ read stand n = (
  (λ h. (
      let r = listed_numbers (domain cs) plain_elem (λ (name : Name). place_of cs name.text) (plain_alike cs) elems names n read h in
      let p = place_of-Some cs (r.0).text n r.1.1 in
      (p.0, subst (In (texts_of names)) (sym p.1) (map_in (λ (name : Name). name.text) names r.0 r.1.0)))),
  (λ h. (
      let r = in_map (λ (name : Name). name.text) names (get_or cs n []) h.1 in
      let s = stand r.0 r.1.0 in
      let p = place_of-Some cs (r.0).text s.0 s.1 in
      let same : s.0 ≡ n = one_place cs s.0 n differ p.0 h.0 (p.1 ∙ r.1.1) in
      numbers_listed (domain cs) plain_elem (λ (name : Name). place_of cs name.text) (plain_alike cs) elems names n read (r.0, (r.1.0, s.1 ∙ ap (λ z. Some z) same)))),
)

pub bracket_set : (ss : Shapes) (elems : List (Spanned ElemKind)) (lists : List (List Name)) → IsTuple ss → all_of (bracketed_elem (length (sizes ss))) elems ≡ Some lists → ((names : List Name) → In lists names → AllStand ss names) → (n : ℕ)
    → (has (listed (tuple ss) elems) n ≡ true) ↔ ((n < product (sizes ss)) × ((names : List Name) × (In lists names × (tuple_texts ss n ≡ texts_of names))))
bracket_set ss elems lists type read stand n =
    let form = bracketed_elem (length (sizes ss)) in (
      (λ h. (
          let r = listed_numbers (tuple ss) form (tuple_number (tuple ss)) (bracketed_alike ss (length (sizes ss))) elems lists n read h in
          let t = tuple_of_number ss r.0 n (places_behind [] (constants_of ss) r.0) refl r.1.1 in
          (t.within, (r.0, (r.1.0, t.texts))))),
      (λ h. numbers_listed (tuple ss) form (tuple_number (tuple ss)) (bracketed_alike ss (length (sizes ss))) elems lists n read
          (h.1.0, (h.1.1.0, number_of_tuple ss h.1.0 n type (each_long (length (sizes ss)) elems lists read h.1.0 h.1.1.0) (stand h.1.0 h.1.1.0) h.0 h.1.1.1))),
    )

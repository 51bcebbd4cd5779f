-- A term with open parameters is right without parameters once right terms stand in their places.
use Rattle.std.proofs.Common.{◌≡◌, inl, inr, ℕ, true, false, List, [], ◌∷◌, map, Option, Some, None, length, refl, sym, ap, ap₂, ◌∙◌, subst}
use Rattle.std.specs.Prelude.{option_map}
use Rattle.std.proofs.lemmas.Bool.{true≢false, false≢true, or_cases}
use Rattle.xdg_ast.specs.declared.names.Name.{Name}
use Rattle.xdg_ast.specs.declared.names.Spanned.{Spanned}
use Rattle.xdg_ast.specs.declared.terms.TermKind.{TermKind, out-TermKind, roll-TermKind, roll-out-TermKind}
use Rattle.xdg_ast.specs.declared.terms.TermKind.TheVariants as k
use Rattle.xdg_ast.specs.declared.terms.ElemKind.{ElemKind, out-ElemKind}
use Rattle.xdg_ast.specs.declared.terms.ElemKind.TheVariants as e
use Rattle.xdg_ast.specs.declared.terms.ElemKind.TheOpen.{TermKind-F, ElemKind-F}
use Rattle.xdg_domain.specs.Shapes.{Shape, tuple, integer, text, set, iset, card, valency, mapping, fields, sizes}
use Rattle.xdg_terms.specs.Forms.{Term, Bindings, with_open, bound, bound_in, bound_to, bound_or, constant_of, constant_in, number_of, number_in, card_of, card_in, generator_of, generator_in, bracket_of, bracket_in, constants_of, brackets_of, counts_of, pairs_of, braces_in, all_of, then_also, plain_elem, bracketed_elem, counted_elem, keyed_in, keyed_elem}
use Rattle.xdg_terms.specs.Offences.{is_some, has_form, has_set_form, OfSeen, OffendsIn}
use Rattle.xdg_terms.specs.Closed.{closed, closed_by, closing, kind_by, closing_kind, closing_elem}
use Rattle.xdg_terms.specs.Wanted.{free_in, free_of}
use Rattle.xdg_terms.specs.Replaced.{IsOpenRight, AreBoundRight}
use Rattle.xdg_terms.proofs.Right.{HoldsNone, told}
use Rattle.xdg_terms.proofs.Read.{plain_is, bracketed_is, counted_is}
use Rattle.xdg_terms.proofs.Replacing.{closed_is}
use Rattle.xdg_terms.proofs.Binding.{no_form, RightIn, right, right_in, all_looked_at}

module _ (bs : Bindings) where
  -- ---- elements without terms stay

  unkeyed_by : (kind : ElemKind) (l : ElemKind-F ElemKind TermKind) → keyed_in l ≡ None → kind_by bs kind l ≡ kind
  unkeyed_by kind (ElemKind-F.Keyed name t) none = absurd (true≢false (ap is_some none))
  unkeyed_by kind l none = refl

  unkeyed : (elem : Spanned ElemKind) → keyed_elem elem ≡ None → closing_elem bs elem ≡ elem
  unfolding keyed_elem closing_kind
  unkeyed elem none = ap (λ (z : ElemKind). record { kind = z; span = elem.span }) (unkeyed_by elem.kind (out-ElemKind elem.kind) none)

  both_some : {A : Type 0} (o : Option A) (os : Option (List A)) → is_some (then_also o os) ≡ true → (is_some o ≡ true) × (is_some os ≡ true)
  both_some (Some x) (Some xs) h = (refl, refl)
  both_some o os h = absurd (false≢true h)

  each_same : {A : Type 0} (form : Spanned ElemKind → Option A) → ((elem : Spanned ElemKind) (x : A) → form elem ≡ Some x → keyed_elem elem ≡ None) → (elems : List (Spanned ElemKind)) → is_some (all_of form elems) ≡ true → map (closing_elem bs) elems ≡ elems
  unfolding all_of
  each_same form un [] h = refl
  each_same form un (elem ∷ elems) h =
      let b = both_some (form elem) (all_of form elems) h in
      let x = told (form elem) b.0 in
      ap₂ (λ (y : Spanned ElemKind) (ys : List (Spanned ElemKind)). y ∷ ys) (unkeyed elem (un elem x.0 x.1)) (each_same form un elems b.1)

  -- ---- terms without terms in them stay

  module _ (t : Term) (elems : List (Spanned ElemKind)) (is : out-TermKind t.kind ≡ TermKind-F.Braces elems) where
    abbrev Stay : Type 0
    Stay = map (closing_elem bs) elems ≡ elems

    not_read : {A : Type 0} (read : TermKind-F ElemKind TermKind → Option A) → is_some (read (TermKind-F.Braces elems)) ≡ false → is_some (read (out-TermKind t.kind)) ≡ true → Stay
    not_read read none h = absurd (true≢false (sym h ∙ ap (λ l. is_some (read l)) is ∙ none))

    each : {A : Type 0} (form : Spanned ElemKind → Option A) → ((elem : Spanned ElemKind) (x : A) → form elem ≡ Some x → keyed_elem elem ≡ None) → is_some (braces_in form (out-TermKind t.kind)) ≡ true → Stay
    each form un h = each_same form un elems (sym (ap (λ l. is_some (braces_in form l)) is) ∙ h)

    of_set : (s : Shape) → has_set_form s t ≡ true → Stay
    unfolding constants_of brackets_of generator_of plain_elem bracketed_elem keyed_elem
    of_set (tuple ss) h =
        let n = length (sizes ss) in
        elim (or_cases (is_some (brackets_of n t)) (is_some (generator_of t)) h) [ inl a ↦ each (bracketed_elem n) (λ elem x q. ap keyed_in (bracketed_is n (out-ElemKind elem.kind) x q)) a | inr b ↦ not_read generator_in refl b ]
    of_set s h = each plain_elem (λ elem x q. ap keyed_in (plain_is (out-ElemKind elem.kind) x q)) h

    of_form : (s : Shape) → HoldsNone s → has_form s t ≡ true → Stay
    unfolding constant_of number_of card_of bracket_of counts_of counted_elem keyed_elem
    of_form (tuple ss) none h = not_read (bracket_in (length (sizes ss))) refl h
    of_form integer none h = not_read number_in refl h
    of_form (set s) none h = of_set s h
    of_form (iset s) none h = of_set s h
    of_form card none h = not_read card_in refl h
    of_form (valency key) none h = each counted_elem (λ elem x q. ap keyed_in (counted_is (out-ElemKind elem.kind) x q)) h
    of_form (mapping key u) none h = absurd none
    of_form (fields fs) none h = absurd none
    of_form s none h = not_read constant_in refl h

  same_by : (s : Shape) (t : Term) → HoldsNone s → has_form s t ≡ true → (l : TermKind-F ElemKind TermKind) → out-TermKind t.kind ≡ l → closed_by bs t l ≡ t
  same_by s t none form (TermKind-F.Param name) is = absurd (true≢false (sym form ∙ no_form t name is s))
  same_by s t none form (TermKind-F.Braces elems) is =
      ap (λ (xs : List (Spanned ElemKind)). record { kind = k.Braces xs; span = t.span }) (of_form t elems is s none form)
      ∙ ap (λ (z : TermKind). record { kind = z; span = t.span }) (sym (k.rolls-Braces elems) ∙ ap roll-TermKind (sym is) ∙ roll-out-TermKind t.kind)
  same_by s t none form l is = refl

  stays : (s : Shape) (t : Term) → HoldsNone s → has_form s t ≡ true → closed bs t ≡ t
  unfolding closing
  stays s t none form = closed_is bs t ∙ same_by s t none form (out-TermKind t.kind) refl

  -- a parameter is what it is bound to
  param_by : (free : List (List ℕ)) (t : Term) (name : Name) (l : TermKind-F ElemKind TermKind) → free_in free l ≡ Some name → closed_by bs t l ≡ bound_in bs t l
  param_by free t name (TermKind-F.Param other) h = refl
  param_by free t name l h = absurd (true≢false (sym (ap is_some h)))

  param_bound : (free : List (List ℕ)) (t : Term) (name : Name) → free_of free t ≡ Some name → closed bs t ≡ bound bs t
  unfolding closing bound free_of
  param_bound free t name h = closed_is bs t ∙ param_by free t name (out-TermKind t.kind) h

  -- ---- keys with terms

  abbrev pair_closed : Name × Term → Name × Term
  pair_closed pair = (pair.0, closed bs pair.1)

  keyed_by : (kind : ElemKind) (l : ElemKind-F ElemKind TermKind) → out-ElemKind kind ≡ l → keyed_in (out-ElemKind (kind_by bs kind l)) ≡ option_map pair_closed (keyed_in l)
  keyed_by kind (ElemKind-F.Keyed name t) is = ap keyed_in (e.outs-Keyed name (closed bs t))
  keyed_by kind l is = ap keyed_in is

  keyed_closed : (elem : Spanned ElemKind) → keyed_elem (closing_elem bs elem) ≡ option_map pair_closed (keyed_elem elem)
  unfolding keyed_elem closing_kind
  keyed_closed elem = keyed_by elem.kind (out-ElemKind elem.kind) refl

  also_closed : (o : Option (Name × Term)) (os : Option (List (Name × Term))) → then_also (option_map pair_closed o) (option_map (map pair_closed) os) ≡ option_map (map pair_closed) (then_also o os)
  also_closed (Some x) (Some xs) = refl
  also_closed o os = refl

  all_closed : (elems : List (Spanned ElemKind)) → all_of keyed_elem (map (closing_elem bs) elems) ≡ option_map (map pair_closed) (all_of keyed_elem elems)
  unfolding all_of
  all_closed [] = refl
  all_closed (elem ∷ elems) = ap₂ (λ (o : Option (Name × Term)) (os : Option (List (Name × Term))). then_also o os) (keyed_closed elem) (all_closed elems) ∙ also_closed (keyed_elem elem) (all_of keyed_elem elems)

  pairs_by : (t : Term) (l : TermKind-F ElemKind TermKind) (pairs : List (Name × Term)) → out-TermKind t.kind ≡ l → braces_in keyed_elem l ≡ Some pairs → braces_in keyed_elem (out-TermKind (closed_by bs t l).kind) ≡ Some (map pair_closed pairs)
  pairs_by t (TermKind-F.Braces elems) pairs is h = ap (braces_in keyed_elem) (k.outs-Braces (map (closing_elem bs) elems)) ∙ all_closed elems ∙ ap (option_map (map pair_closed)) h
  pairs_by t l pairs is h = absurd (true≢false (sym (ap is_some h)))

  pairs_closed : (t : Term) (pairs : List (Name × Term)) → pairs_of t ≡ Some pairs → pairs_of (closed bs t) ≡ Some (map pair_closed pairs)
  unfolding pairs_of closing
  pairs_closed t pairs h = ap (λ (z : Term). braces_in keyed_elem (out-TermKind z.kind)) (closed_is bs t) ∙ pairs_by t (out-TermKind t.kind) pairs refl h

-- what a parameter is bound to is right without parameters
param_right : (free : List (List ℕ)) (bs : Bindings) (s : Shape) (t : Term) (name : Name) → free_of free t ≡ Some name → ((cs : Bindings) → bound cs t ≡ bound_or t (bound_to cs name.text))
    → (b : Term) × ((bound_to bs name.text ≡ Some b) × IsOpenRight [] s b) → RightIn (with_open []) s (closed bs t)
param_right free bs s t name is means b =
    subst (RightIn (with_open []) s) (sym (param_bound bs free t name is ∙ means bs ∙ ap (bound_or t) b.1.0)) (right_in (with_open []) s b.0 (all_looked_at b.0) b.1.1)

pub closed_law : (free : List (List ℕ)) (bs : Bindings) (s : Shape) (t : Term) → IsOpenRight free s t → AreBoundRight free bs s t → IsOpenRight [] s (closed bs t)
closed_law free bs s t h known f w =
    right free (with_open []) (closed bs) (closed bs) (λ u. all_looked_at (closed bs u)) (stays bs) (pairs_closed bs) (λ p u. (b : Term) × ((bound_to bs p ≡ Some b) × IsOpenRight [] u b)) (param_right free bs) s t known h
    f (subst (λ o. OfSeen o (λ z. OffendsIn (with_open []) s z f)) (all_looked_at (closed bs t)) w)

-- Terms in which parameters are open.
use Rattle.std.proofs.Common.{◌≡◌, ◌⊎◌, ◌++◌, inl, inr, ℕ, Bool, true, false, List, [], ◌∷◌, Option, Some, None, refl, sym, ap, subst}
use Rattle.std.specs.Prelude.{if◌then◌else◌, bytes_eq}
use Rattle.std.specs.List.{flat_map}
use Rattle.std.proofs.lemmas.List.Folds.{flat_map-map}
use Rattle.xdg_base.specs.declared.faults.Fault.{Fault}
use Rattle.xdg_base.specs.Texts.{has_text}
use Rattle.xdg_ast.specs.declared.names.Name.{Name}
use Rattle.xdg_ast.specs.declared.names.Spanned.{Spanned}
use Rattle.xdg_ast.specs.declared.terms.TermKind.{TermKind, out-TermKind, fold_out-TermKind, map-TermKind}
use Rattle.xdg_ast.specs.declared.terms.ElemKind.{ElemKind, out-ElemKind, fold_out-ElemKind, map-ElemKind}
use Rattle.xdg_ast.specs.declared.terms.ElemKind.TheOpen.{TermKind-F, ElemKind-F}
use Rattle.xdg_domain.specs.Shapes.{Shape, mapping, fields, Fields, no_field, field_then}
use Rattle.xdg_terms.specs.Forms.{Term, with_open, unless_open, pairs_of, braces_in, all_of, keyed_elem, keyed_in, then_also}
use Rattle.xdg_terms.specs.Offences.{OffendsIn, OffendsUnder, OpenOffends, OfSeen, all_told}
use Rattle.xdg_terms.specs.Stray.{tokens, elem_tokens, term_step, elem_step}
use Rattle.xdg_terms.specs.Wanted.{Want, params_in, params_under, or_inside, free_of, free_in}
use Rattle.xdg_facts.specs.Membership.{In}
use Rattle.xdg_facts.proofs.In.{in_left, in_right, in_flat_map}

-- ---- an open parameter is left out

seen_plain : (free : List (List ℕ)) (t : Term) (P : Term → Type 0) → OfSeen (with_open free t) P → P t
unfolding with_open
seen_plain free t P = by (out-TermKind t.kind)
  where
    param : (b : Bool) → OfSeen (if b then None else Some t) P → P t
    param true h = absurd h
    param false h = h

    by : (layer : TermKind-F ElemKind TermKind) → OfSeen (unless_open free t layer) P → P t
    by (TermKind-F.Param name) h = param (has_text free name.text) h
    by _ h = h

plain_seen : (t : Term) (P : Term → Type 0) → P t → OfSeen (with_open [] t) P
unfolding with_open
plain_seen t P = by (out-TermKind t.kind)
  where
    by : (layer : TermKind-F ElemKind TermKind) → P t → OfSeen (unless_open [] t layer) P
    by (TermKind-F.Param name) h = h
    by _ h = h

module _ (free : List (List ℕ)) where
  mutual
    less_in : (s : Shape) (t : Term) (f : Fault) → OffendsIn (with_open free) s t f → OffendsIn (with_open []) s t f
    less_in (mapping k u) t f h = elim h [
      | inl a ↦ inl a
      | inr p ↦ inr (p.0, (p.1.0, plain_seen p.0.1 (λ x. OffendsIn (with_open []) u x f) (less_in u p.0.1 f (seen_plain free p.0.1 (λ x. OffendsIn (with_open free) u x f) p.1.1))))
    ]
    less_in (fields fs) t f h = elim h [ inl a ↦ inl a | inr p ↦ inr (p.0, (p.1.0, less_under fs p.0 f p.1.1)) ]
    less_in other t f h = h

    less_under : (fs : Fields) (pair : Name × Term) (f : Fault) → OffendsUnder (with_open free) fs pair f → OffendsUnder (with_open []) fs pair f
    less_under no_field pair f h = h
    less_under (field_then name u fs) pair f h = elim h [
      | inl a ↦ inl (a.0, plain_seen pair.1 (λ x. OffendsIn (with_open []) u x f) (less_in u pair.1 f (seen_plain free pair.1 (λ x. OffendsIn (with_open free) u x f) a.1)))
      | inr b ↦ inr (b.0, less_under fs pair f b.1)
    ]

  -- what is wrong with a term with open parameters is wrong with it without them
  pub less_open : (s : Shape) (t : Term) (f : Fault) → OpenOffends free s t f → OpenOffends [] s t f
  less_open s t f h = plain_seen t (λ x. OffendsIn (with_open []) s x f) (less_in s t f (seen_plain free t (λ x. OffendsIn (with_open free) s x f) h))

-- ---- the parameters that are wanted stand in the term

abbrev layer_tokens : TermKind-F ElemKind TermKind → List Name
layer_tokens layer = term_step (map-TermKind ElemKind TermKind (List Name) (List Name) elem_tokens tokens layer)

tokens_are : (kind : TermKind) → tokens kind ≡ layer_tokens (out-TermKind kind)
tokens_are kind = fold_out-TermKind (List Name) (List Name) elem_step term_step kind

abbrev layer_elem : ElemKind-F ElemKind TermKind → List Name
layer_elem layer = elem_step (map-ElemKind ElemKind TermKind (List Name) (List Name) elem_tokens tokens layer)

elem_tokens_are : (kind : ElemKind) → elem_tokens kind ≡ layer_elem (out-ElemKind kind)
elem_tokens_are kind = fold_out-ElemKind (List Name) (List Name) elem_step term_step kind

elem_token : (elem : Spanned ElemKind) (p : Name × Term) (name : Name) → keyed_elem elem ≡ Some p → In (tokens p.1.kind) name → In (elem_tokens elem.kind) name
unfolding keyed_elem
elem_token elem p name h i = subst (λ ns. In ns name) (sym (elem_tokens_are elem.kind)) (by (out-ElemKind elem.kind) h)
  where
    by : (layer : ElemKind-F ElemKind TermKind) → keyed_in layer ≡ Some p → In (layer_elem layer) name
    by (ElemKind-F.Keyed n t) e = let same : (n, t) ≡ p = cc in subst (λ (q : Name × Term). In (tokens q.1.kind) name) (sym same) i
    by _ e = absurd (cc)

elems_token : (elems : List (Spanned ElemKind)) (pair : Name × Term) (name : Name) → In (all_told (all_of keyed_elem elems)) pair → In (tokens pair.1.kind) name → In (flat_map (λ elem. elem_tokens elem.kind) elems) name
unfolding all_of
elems_token [] pair name h i = absurd h
elems_token (e ∷ es) pair name h i = by (keyed_elem e) refl (all_of keyed_elem es) refl h (λ k. elems_token es pair name k i)
  where
    by : (o : Option (Name × Term)) → keyed_elem e ≡ o → (rest : Option (List (Name × Term))) → all_of keyed_elem es ≡ rest → In (all_told (then_also o rest)) pair
        → (In (all_told (all_of keyed_elem es)) pair → In (flat_map (λ elem. elem_tokens elem.kind) es) name) → In (elem_tokens e.kind ++ flat_map (λ elem. elem_tokens elem.kind) es) name
    by None q rest r k more = absurd k
    by (Some p) q None r k more = absurd k
    by (Some p) q (Some ps) r k more = elim k [
      | inl same ↦ in_left (elem_tokens e.kind) (flat_map (λ elem. elem_tokens elem.kind) es) name (elem_token e p name q (subst (λ (x : Name × Term). In (tokens x.1.kind) name) (sym same) i))
      | inr later ↦ in_right (elem_tokens e.kind) (flat_map (λ elem. elem_tokens elem.kind) es) name (more (subst (λ o. In (all_told o) pair) (sym r) later))
    ]

pair_token : (t : Term) (pair : Name × Term) (name : Name) → In (all_told (pairs_of t)) pair → In (tokens pair.1.kind) name → In (tokens t.kind) name
unfolding pairs_of
pair_token t pair name h i = subst (λ ns. In ns name) (sym (tokens_are t.kind)) (by (out-TermKind t.kind) h)
  where
    by : (layer : TermKind-F ElemKind TermKind) → In (all_told (braces_in keyed_elem layer)) pair → In (layer_tokens layer) name
    by (TermKind-F.Braces elems) k = subst (λ ns. In ns name) (sym (flat_map-map _ _ elems)) (elems_token elems pair name k i)
    by _ k = absurd k

module _ (free : List (List ℕ)) where
  free_token : (t : Term) (name : Name) → free_of free t ≡ Some name → In (tokens t.kind) name
  unfolding free_of
  free_token t name h = subst (λ ns. In ns name) (sym (tokens_are t.kind)) (by (out-TermKind t.kind) h)
    where
      chosen : (b : Bool) (n : Name) → (if b then Some n else None) ≡ Some name → n ≡ name
      chosen true n e = cc
      chosen false n e = absurd (cc)

      by : (layer : TermKind-F ElemKind TermKind) → free_in free layer ≡ Some name → In (layer_tokens layer) name
      by (TermKind-F.Param n) e = inl (chosen (has_text free n.text) n e)
      by _ e = absurd (cc)

  -- the parameter stands in the term
  abbrev pub Stands : Term → Want → Type 0
  Stands t want = (name : Name) × (In (tokens t.kind) name × (name.text ≡ want.0))

  or_token : (t : Term) (s : Shape) (inside : List Want) (want : Want) → In (or_inside (free_of free t) s inside) want → Stands t want ⊎ In inside want
  or_token t s inside want = by (free_of free t) refl
    where
      by : (o : Option Name) → free_of free t ≡ o → In (or_inside o s inside) want → Stands t want ⊎ In inside want
      by None e h = inr h
      by (Some name) e h = elim h [ inl same ↦ inl (name, (free_token t name e, ap (λ (w : Want). w.0) same)) | inr k ↦ absurd k ]

  alone : (t : Term) (want : Want) → Stands t want ⊎ In [] want → Stands t want
  alone t want h = elim h [ inl a ↦ a | inr b ↦ absurd b ]

  mutual
    pub wants_stand : (s : Shape) (t : Term) (want : Want) → In (params_in free s t) want → Stands t want
    wants_stand (mapping k u) t want h = elim (or_token t (mapping k u) (flat_map (λ pair. params_in free u pair.1) (all_told (pairs_of t))) want h) [
      | inl a ↦ a
      | inr b ↦ (let p = in_flat_map (λ (pair : Name × Term). params_in free u pair.1) (all_told (pairs_of t)) want b in
          let r = wants_stand u p.0.1 want p.1.1 in (r.0, (pair_token t p.0 r.0 p.1.0 r.1.0, r.1.1)))
    ]
    wants_stand (fields fs) t want h = elim (or_token t (fields fs) (flat_map (λ pair. params_under free fs pair) (all_told (pairs_of t))) want h) [
      | inl a ↦ a
      | inr b ↦ (let p = in_flat_map (λ (pair : Name × Term). params_under free fs pair) (all_told (pairs_of t)) want b in
          let r = wants_under fs p.0 want p.1.1 in (r.0, (pair_token t p.0 r.0 p.1.0 r.1.0, r.1.1)))
    ]
    wants_stand other t want h = alone t want (or_token t other [] want h)

    wants_under : (fs : Fields) (pair : Name × Term) (want : Want) → In (params_under free fs pair) want → Stands pair.1 want
    wants_under no_field pair want h = absurd h
    wants_under (field_then name u fs) pair want h = elim (bytes_eq name pair.0.text) as (λ b. In (if b then params_in free u pair.1 else params_under free fs pair) want → Stands pair.1 want) [
      | true ↦ λ k. wants_stand u pair.1 want k
      | false ↦ λ k. wants_under fs pair want k
    ] h

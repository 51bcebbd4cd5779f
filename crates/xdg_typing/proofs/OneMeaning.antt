-- Where the types have ranks and no name is defined twice, the names have one meaning.
use Rattle.std.proofs.Common.{◌≡◌, inl, inr, ℕ, zero, suc, ◌<◌, List, [], ◌∷◌, map, refl, sym, ap, ap₂, ◌∙◌, subst, arith, true, false, Option, None, Some}
use Rattle.std.specs.Prelude.{bytes_eq, if◌then◌else◌}
use Rattle.std.proofs.lemmas.Bool.{true≢false}
use Rattle.xdg_ast.specs.declared.names.Name.{Name}
use Rattle.xdg_domain.specs.Shapes.{Shape, truth, fields, tuple, set, iset, valency, mapping, shape_then, field_then}
use Rattle.xdg_types.specs.Written.{Tree, recorded, tupled, set_of, iset_of, valency_of, map_of, named, Trees, no_tree, tree_then, Members, no_member, member_then, tree, uses, uses_in_trees, uses_in_members}
use Rattle.xdg_types.specs.Parts.{Statement, Definition, definitions}
use Rattle.xdg_types.specs.Meaning.{meaning, domains_meaning, fields_meaning, as_domain, Resolves}
use Rattle.xdg_typing.specs.Answers.{IsRanked}
use Rattle.xdg_facts.proofs.Options.{none_some, some_same}
use Rattle.xdg_facts.proofs.Texts.{same_text, is_same, other_test}
use Rattle.xdg_facts.specs.Membership.{In, Differ}
use Rattle.xdg_types.proofs.Elements.{in_texts}
use Rattle.xdg_facts.proofs.In.{in_left, in_right, map_in}
use Rattle.xdg_ast.specs.Texts.{texts}

-- a type's meaning turns on the names that it uses alone
module _ (p q : List ℕ → Shape) where
  mutual
    pub same_meaning : (t : Tree) → ((n : Name) → In (uses t) n → p n.text ≡ q n.text) → meaning p t ≡ meaning q t
    same_meaning (recorded ms) h = ap fields (same_fields ms h)
    same_meaning (tupled ts) h = ap tuple (same_domains ts h)
    same_meaning (set_of at t) h = ap (λ s. set (as_domain s)) (same_meaning t h)
    same_meaning (iset_of at t) h = ap (λ s. iset (as_domain s)) (same_meaning t h)
    same_meaning (valency_of at t) h = ap (λ s. valency (as_domain s)) (same_meaning t h)
    same_meaning (map_of at t there u) h =
        ap₂ (λ k s. mapping (as_domain k) s) (same_meaning t (λ n i. h n (in_left (uses t) (uses u) n i))) (same_meaning u (λ n i. h n (in_right (uses t) (uses u) n i)))
    same_meaning (named name) h = h name (inl refl)
    same_meaning other h = refl

    same_domains : (ts : Trees) → ((n : Name) → In (uses_in_trees ts) n → p n.text ≡ q n.text) → domains_meaning p ts ≡ domains_meaning q ts
    same_domains no_tree h = refl
    same_domains (tree_then at t ts) h =
        ap₂ (λ s ss. shape_then (as_domain s) ss) (same_meaning t (λ n i. h n (in_left (uses t) (uses_in_trees ts) n i))) (same_domains ts (λ n i. h n (in_right (uses t) (uses_in_trees ts) n i)))

    same_fields : (ms : Members) → ((n : Name) → In (uses_in_members ms) n → p n.text ≡ q n.text) → fields_meaning p ms ≡ fields_meaning q ms
    same_fields no_member h = refl
    same_fields (member_then name at t ms) h =
        ap₂ (λ s fs. field_then name.text s fs) (same_meaning t (λ n i. h n (in_left (uses t) (uses_in_members ms) n i))) (same_fields ms (λ n i. h n (in_right (uses t) (uses_in_members ms) n i)))

-- ---- the definition of a name

abbrev pub names_in : List Definition → List (List ℕ)
names_in ds = texts (map (λ d. d.name) ds)

-- the first definition of the name
pub found : List Definition → List ℕ → Option Definition
found [] name = None
found (d ∷ ds) name = if bytes_eq d.name.text name then Some d else found ds name

pub among_in : (ds : List Definition) (d : Definition) → In ds d → In (names_in ds) d.name.text
among_in ds d h = in_texts (map (λ (x : Definition). x.name) ds) d.name (map_in (λ (x : Definition). x.name) ds d h)

pub found_none : (ds : List Definition) (name : List ℕ) → (In (names_in ds) name → ⊥) → found ds name ≡ None
unfolding found
found_none [] name h = refl
found_none (d ∷ ds) name h = rw (other_test d.name.text name (λ e. h (inl e))) (found_none ds name (λ k. h (inr k)))

pub among_found : (ds : List Definition) (name : List ℕ) → In (names_in ds) name → found ds name ≡ None → ⊥
unfolding found
among_found [] name a h = a
among_found (d ∷ ds) name a h = elim (bytes_eq d.name.text name) as (λ b. bytes_eq d.name.text name ≡ b → (if b then Some d else found ds name) ≡ None → ⊥) [
  | true ↦ λ t e. none_some d (sym e)
  | false ↦ λ t e. elim a [ inl same ↦ true≢false (sym (is_same d.name.text name same) ∙ t) | inr k ↦ among_found ds name k e ]
] refl h

pub found_in : (ds : List Definition) (name : List ℕ) (d : Definition) → found ds name ≡ Some d → In ds d × (d.name.text ≡ name)
unfolding found
found_in [] name d h = absurd (cc)
found_in (x ∷ ds) name d h = elim (bytes_eq x.name.text name) as (λ b. bytes_eq x.name.text name ≡ b → (if b then Some x else found ds name) ≡ Some d → In (x ∷ ds) d × (d.name.text ≡ name)) [
  | true ↦ λ t e. (let is = some_same x d e in (inl is, ap (λ y. y.name.text) (sym is) ∙ same_text x.name.text name t))
  | false ↦ λ t e. (let k = found_in ds name d e in (inr k.0, k.1))
] refl h

pub found_is : (ds : List Definition) → Differ (names_in ds) → (d : Definition) → In ds d → found ds d.name.text ≡ Some d
unfolding found
found_is [] apart d h = absurd h
found_is (x ∷ ds) apart d h = elim h [
  | inl e ↦ subst (λ y. (if bytes_eq x.name.text y.name.text then Some x else found ds y.name.text) ≡ Some y) e (rw (is_same x.name.text x.name.text refl) refl)
  | inr k ↦ rw (other_test x.name.text d.name.text (λ e. apart.0 (subst (In (names_in ds)) (sym e) (among_in ds d k)))) (found_is ds apart.1 d k)
]

-- ---- the names

abbrev meant : (List ℕ → Shape) → Option Definition → Shape
meant names None = truth
meant names (Some d) = meaning names (tree d.body.kind)

-- what a name means where so many definitions are followed
pub followed : List Definition → ℕ → List ℕ → Shape
followed ds zero name = truth
followed ds (suc n) name = meant (followed ds n) (found ds name)

undefined_followed : (ds : List Definition) (n : ℕ) (name : List ℕ) → found ds name ≡ None → followed ds n name ≡ truth
unfolding followed
undefined_followed ds zero name h = refl
undefined_followed ds (suc n) name h = ap (meant (followed ds n)) h

module _ (statements : List Statement) (rank : List ℕ → ℕ) (ranked : IsRanked statements rank) where
  abbrev ds : List Definition
  ds = definitions statements

  -- enough is followed
  settled : (n m : ℕ) (name : List ℕ) → rank name < n → rank name < m → followed ds n name ≡ followed ds m name
  unfolding followed
  settled zero m name h k = absurd (omega arith)
  settled (suc n) zero name h k = absurd (omega arith)
  settled (suc n) (suc m) name h k =
      elim (found ds name) as (λ o. found ds name ≡ o → meant (followed ds n) (found ds name) ≡ meant (followed ds m) (found ds name)) [
        | None ↦ λ e. rw e refl
        | Some d ↦ λ e. (let is = found_in ds name d e in
            rw e (same_meaning (followed ds n) (followed ds m) (tree d.body.kind) (λ u i.
            elim (found ds u.text) as (λ o. found ds u.text ≡ o → followed ds n u.text ≡ followed ds m u.text) [
              | None ↦ λ none. undefined_followed ds n u.text none ∙ sym (undefined_followed ds m u.text none)
              | Some x ↦ λ some. (let at = found_in ds u.text x some in
                  let less : rank u.text < rank name = subst (λ t. rank u.text < rank t) is.1 (ranked d u is.0 i (subst (In (names_in ds)) at.1 (among_in ds x at.0))) in
                  settled n m u.text (omega (arith, less, h)) (omega (arith, less, k)))
            ] refl)))
      ] refl

  -- the meaning of each name, followed as far as its own rank asks
  pub names : List ℕ → Shape
  names name = followed ds (suc (rank name)) name

  pub names_resolve : Differ (names_in ds) → Resolves statements names
  unfolding names followed
  names_resolve apart = record {
    defined = λ d h. rw (found_is ds apart d h)
        (same_meaning (followed ds (rank d.name.text)) names (tree d.body.kind) (λ u i.
        elim (found ds u.text) as (λ o. found ds u.text ≡ o → followed ds (rank d.name.text) u.text ≡ names u.text) [
          | None ↦ λ none. undefined_followed ds (rank d.name.text) u.text none ∙ sym (undefined_followed ds (suc (rank u.text)) u.text none)
          | Some x ↦ λ some. (let at = found_in ds u.text x some in
              let less : rank u.text < rank d.name.text = ranked d u h i (subst (In (names_in ds)) at.1 (among_in ds x at.0)) in
              settled (rank d.name.text) (suc (rank u.text)) u.text less (omega arith))
        ] refl));
    undefined = λ name h. undefined_followed ds (suc (rank name)) name (found_none ds name h);
  }

  -- and there is no other
  one_by : (p q : List ℕ → Shape) → Resolves statements p → Resolves statements q → (n : ℕ) (name : List ℕ) → rank name < n → p name ≡ q name
  one_by p q h k zero name l = absurd (omega arith)
  one_by p q h k (suc n) name l =
      elim (found ds name) as (λ o. found ds name ≡ o → p name ≡ q name) [
        | None ↦ λ none. (let out : In (names_in ds) name → ⊥ = λ a. among_found ds name a none in h.undefined name out ∙ sym (k.undefined name out))
        | Some d ↦ λ some. (let is = found_in ds name d some in
            subst (λ t. p t ≡ q t) is.1 (h.defined d is.0 ∙ same_meaning p q (tree d.body.kind) (λ u i.
            elim (found ds u.text) as (λ o. found ds u.text ≡ o → p u.text ≡ q u.text) [
              | None ↦ λ none. (let out : In (names_in ds) u.text → ⊥ = λ a. among_found ds u.text a none in h.undefined u.text out ∙ sym (k.undefined u.text out))
              | Some x ↦ λ found_x. (let at = found_in ds u.text x found_x in
                  let less : rank u.text < rank d.name.text = ranked d u is.0 i (subst (In (names_in ds)) at.1 (among_in ds x at.0)) in
                  let here : rank d.name.text ≡ rank name = ap rank is.1 in
                  one_by p q h k n u.text (omega (arith, less, here, l)))
            ] refl) ∙ sym (k.defined d is.0)))
      ] refl

  pub one_meaning : (p q : List ℕ → Shape) → Resolves statements p → Resolves statements q → (name : List ℕ) → p name ≡ q name
  one_meaning p q h k name = one_by p q h k (suc (rank name)) name (omega arith)

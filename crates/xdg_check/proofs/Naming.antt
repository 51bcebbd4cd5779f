-- Where classes have an order, their bodies have counts that agree, in one way.
use Rattle.std.proofs.Common.{◌≡◌, ℕ, zero, suc, ◌<◌, List, [], length, get_or, slice_get, slice_index_or, Option, None, Some, refl, sym, ap, subst, ◌∙◌, arith}
use Rattle.std.proofs.lemmas.Bool.{false_from_ne_true, true≢false}
use Rattle.std.proofs.lemmas.List.{length-map, get_or-map}
use Rattle.std.proofs.lemmas.Option.{slice_get-get_or, get_or_from_slice_get, slice_get_within}
use Rattle.xdg_names.specs.Texts.{has_text, place_of}
use Rattle.xdg_names.proofs.Texts.{place_of-Some, place_of-None, place_of-at, None-place_of, has_among, among_has}
use Rattle.xdg_classes.specs.Bodies.{Body, body, Called, calls}
use Rattle.xdg_check.specs.declared.checked.Class.{Class}
use Rattle.xdg_check.specs.Counts.{Counting, class_texts, Agrees}
use Rattle.xdg_check.specs.Checked.{IsOrder}
use Rattle.xdg_facts.proofs.Lists.{some_at}
use Rattle.xdg_facts.specs.Membership.{In, Differ}
use Rattle.xdg_facts.proofs.In.{in_index, in_got}

-- ---- classes by place

pub record IsPlaced (cs : List Class) (c : Class) (k : ℕ) : Type 0 where
  pub stands : slice_get cs k ≡ Some c
  pub within : k < length cs
  pub place : place_of (class_texts cs) c.name ≡ Some k

pub name_at : (cs : List Class) (k : ℕ) (c : Class) → slice_get cs k ≡ Some c → get_or (class_texts cs) k [] ≡ c.name
name_at cs k c h = get_or-map (λ x. x.name) cs k c [] (slice_get_within cs k c h) ∙ ap (λ x. x.name) (get_or_from_slice_get cs k c c h)

pub placed : (cs : List Class) → Differ (class_texts cs) → (c : Class) → In cs c → (k : ℕ) × IsPlaced cs c k
placed cs apart c h =
    let i = in_index cs c c h in
    let stands : slice_get cs i.0 ≡ Some c = slice_get-get_or cs i.0 c i.1.0 ∙ ap Some i.1.1 in
    let len : length (class_texts cs) ≡ length cs = length-map cs (λ x. x.name) in (
      i.0,
      record {
        stands = stands;
        within = i.1.0;
        place = ap (place_of (class_texts cs)) (sym (name_at cs i.0 c stands)) ∙ place_of-at (class_texts cs) i.0 apart (omega (arith, len, i.1.0));
      },
    )

-- the class at the place of a name has the name
pub name_of_place : (cs : List Class) (name : List ℕ) (k : ℕ) (c : Class) → place_of (class_texts cs) name ≡ Some k → slice_get cs k ≡ Some c → c.name ≡ name
name_of_place cs name k c place stands = sym (name_at cs k c stands) ∙ (place_of-Some (class_texts cs) name k place).1

pub place_within : (cs : List Class) (name : List ℕ) (k : ℕ) → place_of (class_texts cs) name ≡ Some k → k < length cs
place_within cs name k place = let len : length (class_texts cs) ≡ length cs = length-map cs (λ x. x.name) in let at = place_of-Some (class_texts cs) name k place in omega (arith, len, at.0)

pub no_place : (cs : List Class) (name : List ℕ) → (In (class_texts cs) name → ⊥) → place_of (class_texts cs) name ≡ None
no_place cs name out = None-place_of (class_texts cs) name (false_from_ne_true (has_text (class_texts cs) name) (λ h. out (has_among (class_texts cs) name h)))

pub no_among : (cs : List Class) (name : List ℕ) → place_of (class_texts cs) name ≡ None → In (class_texts cs) name → ⊥
no_among cs name none h =
    true≢false (sym (among_has (class_texts cs) name h) ∙ place_of-None (class_texts cs) name none)

-- ---- counts

module _ (count : Counting → Body → ℕ) (same : (p q : Counting) (b : Body) → ((call : Called) → In (calls b) call → p call.name.text ≡ q call.name.text) → count p b ≡ count q b) where
  abbrev pub counted : Counting → Option Class → ℕ
  counted names None = 0
  counted names (Some c) = count names (body c.body.kind)

  abbrev pub class_at : List Class → Option ℕ → Option Class
  class_at cs None = None
  class_at cs (Some k) = slice_get cs k

  -- the count of a name where so many classes are followed
  pub followed : List Class → ℕ → Counting
  followed cs zero name = 0
  followed cs (suc n) name = counted (followed cs n) (class_at cs (place_of (class_texts cs) name))

  module _ (cs : List Class) (order : List ℕ) (apart : Differ (class_texts cs)) (ordered : IsOrder cs order) where
    -- the name is that of the class at this place of the order
    abbrev pub IsAt : ℕ → List ℕ → Type 0
    IsAt j name = place_of (class_texts cs) name ≡ Some (slice_index_or order j 0)

    -- enough is followed
    settled : (n m j : ℕ) (name : List ℕ) → j < length order → j < n → j < m → IsAt j name → followed cs n name ≡ followed cs m name
    unfolding followed
    settled zero m j name inside h k is = absurd (omega (arith, h))
    settled (suc n) zero j name inside h k is = absurd (omega (arith, k))
    settled (suc n) (suc m) j name inside h k is =
        ap (λ o. counted (followed cs n) (class_at cs o)) is
        ∙ elim (slice_get cs (slice_index_or order j 0)) as (λ o. slice_get cs (slice_index_or order j 0) ≡ o → counted (followed cs n) o ≡ counted (followed cs m) o) [
          | None ↦ λ e. refl
          | Some c ↦ λ e. same (followed cs n) (followed cs m) (body c.body.kind) (λ call i. (let at = ordered.after j inside c e call i in
              settled n m at.0 call.name.text (omega (arith, inside, at.1.0)) (omega (arith, h, at.1.0)) (omega (arith, k, at.1.0)) at.1.1))
        ] refl
        ∙ sym (ap (λ o. counted (followed cs m) (class_at cs o)) is)

    -- the count of each name, all classes followed
    pub names : Counting
    names name = followed cs (suc (length order)) name

    -- each class has a place in the order
    pub in_order : (k : ℕ) → k < length cs → (j : ℕ) × ((j < length order) × (slice_index_or order j 0 ≡ k))
    in_order k h = in_index order k 0 (ordered.placed k h)

    pub names_agree : Agrees count cs names
    unfolding names followed
    names_agree = record {
      defined = λ c h. (let p = placed cs apart c h in let j = in_order p.0 p.1.within in
          let at : slice_get cs (slice_index_or order j.0 0) ≡ Some c = ap (slice_get cs) j.1.1 ∙ p.1.stands in
          ap (λ o. counted (followed cs (length order)) (class_at cs o)) p.1.place ∙ ap (counted (followed cs (length order))) p.1.stands
          ∙ same (followed cs (length order)) names (body c.body.kind) (λ call i. (let b = ordered.after j.0 j.1.0 c at call i in
          settled (length order) (suc (length order)) b.0 call.name.text (omega (arith, j.1.0, b.1.0)) (omega (arith, j.1.0, b.1.0)) (omega (arith, j.1.0, b.1.0)) b.1.1)));
      undefined = λ name out. ap (λ o. counted (followed cs (length order)) (class_at cs o)) (no_place cs name out);
    }

    -- and there are no others
    one_by : (p q : Counting) → Agrees count cs p → Agrees count cs q → (n j : ℕ) (name : List ℕ) → j < n → j < length order → IsAt j name → p name ≡ q name
    one_by p q h k zero j name less inside is = absurd (omega (arith, less))
    one_by p q h k (suc n) j name less inside is =
        let c = some_at cs (slice_index_or order j 0) (ordered.within j inside) in
        let stands : In cs c.0 = in_got cs (slice_index_or order j 0) c.0 c.1 in
        subst (λ t. p t ≡ q t) (name_of_place cs name (slice_index_or order j 0) c.0 is c.1)
        (h.defined c.0 stands ∙ same p q (body c.0.body.kind) (λ call i. (let at = ordered.after j inside c.0 c.1 call i in
        one_by p q h k n at.0 call.name.text (omega (arith, less, at.1.0)) (omega (arith, inside, at.1.0)) at.1.1)) ∙ sym (k.defined c.0 stands))

    pub one_naming : (p q : Counting) → Agrees count cs p → Agrees count cs q → (name : List ℕ) → p name ≡ q name
    one_naming p q h k name =
        elim (place_of (class_texts cs) name) as (λ o. place_of (class_texts cs) name ≡ o → p name ≡ q name) [
          | None ↦ λ none. h.undefined name (no_among cs name none) ∙ sym (k.undefined name (no_among cs name none))
          | Some m ↦ λ some. (let j = in_order m (place_within cs name m some) in
              one_by p q h k (suc j.0) j.0 name (omega arith) j.1.0 (some ∙ ap Some (sym j.1.1)))
        ] refl

-- What some edge of a dimension does, one edge after another.
use Rattle.std.proofs.Common.{◌≡◌, ℕ, ◌+◌, ◌<◌, ◌≤◌, ◌⊎◌, ◌↔◌, ◌==◌, ◌++◌, inl, inr, List, [], ◌∷◌, length, take, get_or, sym, ◌∙◌, ap, subst, cond, arith}
use Rattle.std.specs.List.{Any}
use Rattle.std.proofs.lemmas.Bool.{eq-eqb, ne_eqb}
use Rattle.std.proofs.lemmas.List.{append-nil, take_more, take_all}
use Rattle.std.proofs.lemmas.List.Elements.{filter-append, All-contains, Contains-append_left, Contains-get_or, Contains-push, Contains-push_cases}
use Rattle.xdg_problem.specs.declared.analysis.Edge.{Edge}
use Rattle.xdg_problem.specs.Paths.{edges_on}
use Rattle.xdg_judge.specs.Reached.{AreWithin}
use Rattle.xdg_facts.proofs.Filters.{filter_contained}
use Rattle.xdg_facts.proofs.Contained.{any_of}

-- one edge more
pub any_more : (P : Edge → Type 0) (xs : List Edge) (y : Edge) → Any P (xs ++ y ∷ []) ↔ (Any P xs ⊎ P y)
any_more P xs y = (
  λ a. elim (Contains-push_cases xs y a.1 (a.0, a.2, a.3)) [ inl c ↦ inl (any_of P xs a.1 c a.4) | inr is ↦ inr (subst P (sym is) a.4) ],
  λ either. elim either [
    | inl a ↦ any_of P (xs ++ y ∷ []) a.1 (Contains-append_left xs (y ∷ []) a.1 (a.0, a.2, a.3)) a.4
    | inr here ↦ any_of P (xs ++ y ∷ []) y (Contains-push xs y) here
  ],
)

on_more : (dim : ℕ) (edges : List Edge) (i : ℕ) (e : Edge) → i < length edges → e ≡ get_or edges i e → edges_on dim (take (i + 1) edges) ≡ edges_on dim (take i edges) ++ cond (e.dim.0 == dim) (e ∷ []) []
on_more dim edges i e l at =
    ap (edges_on dim) (take_more edges i e l)
    ∙ (filter-append (λ (f : Edge). f.dim.0 == dim) (take i edges) (get_or edges i e ∷ [])
    ∙ ap (λ (f : Edge). edges_on dim (take i edges) ++ cond (f.dim.0 == dim) (f ∷ []) []) (sym at))

pub on_here : (dim : ℕ) (edges : List Edge) (i : ℕ) (e : Edge) → i < length edges → e ≡ get_or edges i e → e.dim.0 ≡ dim → edges_on dim (take (i + 1) edges) ≡ edges_on dim (take i edges) ++ e ∷ []
on_here dim edges i e l at d = on_more dim edges i e l at ∙ ap (λ b. edges_on dim (take i edges) ++ cond b (e ∷ []) []) (eq-eqb _ _ d)

pub on_over : (dim : ℕ) (edges : List Edge) (i : ℕ) (e : Edge) → i < length edges → e ≡ get_or edges i e → (e.dim.0 ≡ dim → ⊥) → edges_on dim (take (i + 1) edges) ≡ edges_on dim (take i edges)
on_over dim edges i e l at d = on_more dim edges i e l at ∙ ap (λ b. edges_on dim (take i edges) ++ cond b (e ∷ []) []) (ne_eqb _ _ d) ∙ append-nil (edges_on dim (take i edges))

pub gather_none : (dim : ℕ) (P : Edge → Type 0) (X : Type 0) (edges : List Edge) → (X → ⊥) → X ↔ Any P (edges_on dim (take 0 edges))
gather_none dim P X edges n = (λ x. absurd (n x), λ (k, e, l, at, p). absurd (omega (arith, l)))

pub gather_here : (dim : ℕ) (P : Edge → Type 0) (X Y : Type 0) (edges : List Edge) (i : ℕ) (e : Edge) → i < length edges → e ≡ get_or edges i e → e.dim.0 ≡ dim → Y ↔ (X ⊎ P e) → X ↔ Any P (edges_on dim (take i edges)) → Y ↔ Any P (edges_on dim (take (i + 1) edges))
gather_here dim P X Y edges i e l at d step h =
    let more = any_more P (edges_on dim (take i edges)) e in
    subst (λ xs. Y ↔ Any P xs) (sym (on_here dim edges i e l at d)) (
      λ y. more.1 (elim (step.0 y) [ inl x ↦ inl (h.0 x) | inr p ↦ inr p ]),
      λ a. step.1 (elim (more.0 a) [ inl x ↦ inl (h.1 x) | inr p ↦ inr p ]),
    )

pub gather_over : (dim : ℕ) (P : Edge → Type 0) (X : Type 0) (edges : List Edge) (i : ℕ) (e : Edge) → i < length edges → e ≡ get_or edges i e → (e.dim.0 ≡ dim → ⊥) → X ↔ Any P (edges_on dim (take i edges)) → X ↔ Any P (edges_on dim (take (i + 1) edges))
gather_over dim P X edges i e l at d h = subst (λ xs. X ↔ Any P xs) (sym (on_over dim edges i e l at d)) h

pub gather_all : (dim : ℕ) (P : Edge → Type 0) (X : Type 0) (edges : List Edge) (i : ℕ) → length edges ≤ i → X ↔ Any P (edges_on dim (take i edges)) → X ↔ Any P (edges_on dim edges)
gather_all dim P X edges i l h = subst (λ xs. X ↔ Any P (edges_on dim xs)) (take_all i edges l) h

-- edges between the first nodes are so on each dimension, and between more nodes

pub within_on : (dim n : ℕ) (edges : List Edge) → AreWithin n edges → AreWithin n (edges_on dim edges)
within_on dim n edges within k d l =
    let w = filter_contained (λ e. e.dim.0 == dim) edges _ (Contains-get_or (edges_on dim edges) k d l) in
    All-contains (λ (e : Edge). (e.mother.0 < n) × (e.label.0 < 32) × (e.daughter.0 < n)) edges _ within w.0

pub within_more : (n m : ℕ) (edges : List Edge) → AreWithin n edges → n ≤ m → AreWithin m edges
within_more n m edges within most k d l = (let h = within k d l in let a = h.0 in let b = h.2 in (omega (arith, a, most), h.1, omega (arith, b, most)))

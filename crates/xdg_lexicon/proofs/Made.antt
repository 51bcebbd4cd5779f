-- Records made feature after feature.
use Rattle.std.proofs.Common.{◌≡◌, ℕ, ◌≤◌, ◌+◌, List, [], ◌∷◌, ◌++◌, refl, ap, sym, ◌∙◌, arith, inl, inr, subst}
use Rattle.std.proofs.lemmas.List.{append-nil}
use Rattle.std.proofs.lemmas.Bool.{cases_eq, cases_lt}
use Rattle.std.specs.Prelude.{Option, None, Some}
use Rattle.xdg_domain.specs.Keys.{KeysBelow}
use Rattle.xdg_domain.specs.Valencies.{said_at, KeysRise}
use Rattle.xdg_domain.proofs.Keyed.{at_head, after_head}
use Rattle.xdg_domain.proofs.KeyAfterKey.{rises_more, below_more}
use Rattle.xdg_terms.proofs.Saying.{below_skip}
use Rattle.xdg_lexicon.specs.Made.{entry, IsMade}

-- nothing is said of keys from the bound on
pub beyond : {V : Type 0} (s : List (ℕ × V)) (bound key : ℕ) → KeysBelow bound s → bound ≤ key → said_at s key ≡ None
beyond [] bound key below order = refl
beyond (e ∷ s) bound key below order = after_head e s key (λ i. omega (arith, i, below.0, order)) ∙ beyond s bound key below.1 order

-- what was said stays said
pub before : {V : Type 0} (s : List (ℕ × V)) (at : ℕ) (x : V) (key : ℕ) → (at ≡ key → ⊥) → said_at (s ++ (at, x) ∷ []) key ≡ said_at s key
before [] at x key other = after_head (at, x) [] key other
before (e ∷ s) at x key other = elim (cases_eq e.0 key) [
  | inl i ↦ at_head e (s ++ (at, x) ∷ []) key i ∙ sym (at_head e s key i)
  | inr apart ↦ after_head e (s ++ (at, x) ∷ []) key apart ∙ before s at x key other ∙ sym (after_head e s key apart)
]

-- the last is said
pub last : {V : Type 0} (s : List (ℕ × V)) (at : ℕ) (x : V) → KeysBelow at s → said_at (s ++ (at, x) ∷ []) at ≡ Some x
last [] at x below = at_head (at, x) [] at refl
last (e ∷ s) at x below = after_head e (s ++ (at, x) ∷ []) at (λ i. omega (arith, i, below.0)) ∙ last s at x below.1

module _ {V : Type 0} (P : ℕ → Option V → Type 0) where
  pub start : (bound : ℕ) → IsMade P bound bound []
  start bound = record { rises = tt; below = tt; each = λ key from to. absurd (omega (arith, from, to)) }

  more_with : (at : ℕ) (made : List (ℕ × V)) (said : Option V) → IsMade P 0 at made → P at said → IsMade P 0 (at + 1) (made ++ entry at said)
  more_with at made None m p = record {
    rises = subst (KeysRise 0) (sym (append-nil made)) m.rises;
    below = subst (KeysBelow (at + 1)) (sym (append-nil made)) (below_skip made at m.below);
    each = λ key from h. subst (λ l. P key (said_at l key)) (sym (append-nil made)) (elim (cases_eq at key) [
      | inl i ↦ subst (λ k. P k (said_at made k)) i (subst (P at) (sym (beyond made at at m.below (omega arith))) p)
      | inr other ↦ m.each key from (omega (arith, h, other))
    ]);
  }
  more_with at made (Some x) m p = record {
    rises = rises_more made at x m.rises m.below;
    below = below_more made at x m.below;
    each = λ key from h. elim (cases_eq at key) [
      | inl i ↦ subst (λ k. P k (said_at (made ++ (at, x) ∷ []) k)) i (subst (P at) (sym (last made at x m.below)) p)
      | inr other ↦ subst (P key) (sym (before made at x key other)) (m.each key from (omega (arith, h, other)))
    ];
  }

  -- one more key
  pub more : (at key : ℕ) (made new : List (ℕ × V)) (said : Option V) → key ≡ at → new ≡ made ++ entry key said → IsMade P 0 at made → P at said → IsMade P 0 (at + 1) new
  more at key made new said same is m p = subst (IsMade P 0 (at + 1)) (sym (is ∙ ap (λ k. made ++ entry k said) same)) (more_with at made said m p)

  -- what holds of each key, where it holds of nothing beyond the bound
  pub all : (bound : ℕ) (made : List (ℕ × V)) → IsMade P 0 bound made → ((key : ℕ) → bound ≤ key → P key None) → (key : ℕ) → P key (said_at made key)
  all bound made m rest key = elim (cases_lt key bound) [
    | inl less ↦ m.each key (omega arith) less
    | inr order ↦ subst (P key) (sym (beyond made bound key m.below order)) (rest key order)
  ]

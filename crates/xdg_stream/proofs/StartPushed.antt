-- A start: its numbers are pushed as far as they are counted.
use Rattle.std.proofs.Common.{◌≡◌, ℕ, ◌<◌, ◌≤◌, ◌+◌, inr, List, [], ◌∷◌, ◌++◌, length, take, drop, get_or, ap, sym, ◌∙◌, arith, subst, length-append}
use Rattle.std.proofs.lemmas.List.{take-append-drop, take_all}
use Rattle.xdg_facts.specs.Order.{Less, AtMost}
use Rattle.xdg_facts.specs.Closed.{Closed}
use Rattle.xdg_facts.proofs.Ordered.{at_most_less, not_less, less_stepped, at_most_extended}
use Rattle.xdg_facts.proofs.Reached.{refused_none}
use Rattle.xdg_stream.specs.Place.{place, Next}
use Rattle.xdg_stream.proofs.Passing.{next_first}
use Rattle.xdg_facts.proofs.Fronts.{front_more}

next_stepped : (shape : List ℕ) (P : List ℕ → Type 0) (start q t : List ℕ) (v : ℕ) → Closed P → start ≡ (q ++ v ∷ []) ++ t → (P (q ++ v ∷ []) → ⊥) → Next shape P start (q ++ (v + 1) ∷ [])
next_stepped shape P start q t v closed e denied = record {
  above = subst (λ z. Less z (q ++ (v + 1) ∷ [])) (sym e) (less_stepped q t v);
  none = λ x f px l k. not_less (q ++ (v + 1) ∷ []) x (refused_none P q x v closed denied (let a = length-append q (v ∷ []) in omega (arith, a)) px (inr (at_most_less (q ++ v ∷ []) start x (subst (AtMost (q ++ v ∷ [])) (sym e) (at_most_extended (q ++ v ∷ []) t)) l))) k;
}

pub start_refused : (shape : List ℕ) (P : List ℕ → Type 0) (start numbers kept : List ℕ) (k v u : ℕ) → Closed P → k < length start → numbers ≡ take k start → v ≡ get_or start k 0 → u ≡ v → (P (numbers ++ v ∷ []) → ⊥) → kept ≡ numbers → Next shape P start (place kept (u + 1))
start_refused shape P start numbers kept k v u closed h e w j denied same =
    let q : start ≡ (numbers ++ v ∷ []) ++ drop (k + 1) start = sym (take-append-drop (k + 1) start) ∙ ap (λ z. z ++ drop (k + 1) start) (sym (front_more start numbers k v h e w)) in
    subst (λ i. Next shape P start (place kept (i + 1))) (sym j) (subst (λ z. Next shape P start (place z (v + 1))) (sym same) (next_stepped shape P start numbers (drop (k + 1) start) v closed q denied))

pub start_done : (shape : List ℕ) (P : List ℕ → Type 0) (start numbers : List ℕ) (k : ℕ) → numbers ≡ take k start → length start ≤ k → Next shape P start (place numbers 0)
start_done shape P start numbers k e h =
    let s : numbers ≡ start = e ∙ take_all k start h in
    subst (λ z. Next shape P start (place z 0)) (sym s) (next_first shape P start)

-- Steps of a comparison of two lists of edges.
use Rattle.std.proofs.Common.{ℕ, ◌<◌, ◌≤◌, ◌+◌, inl, inr, List, ◌∷◌, length, get_or, drop, sym, subst}
use Rattle.std.specs.Prelude.{◌↔◌}
use Rattle.std.proofs.lemmas.List.{drop_more, drop_all}
use Rattle.xdg_problem.specs.declared.analysis.Edge.{Edge}
use Rattle.xdg_problem.specs.Analyses.{Before}
use Rattle.xdg_problem.specs.EdgeOrder.{EdgesLess}
use Rattle.xdg_problem.proofs.Edges.{before_total, before_irreflexive, before_asymmetric}

step_cases : (e f : Edge) (a b : List Edge) → (Before e f → ⊥) → (Before f e → ⊥) → EdgesLess Before a b ↔ EdgesLess Before (e ∷ a) (f ∷ b)
step_cases e f a b n m = elim (before_total e f) [
  | inl l ↦ absurd (n l)
  | inr (inr l) ↦ absurd (m l)
  | inr (inl s) ↦ (λ l. inr (s, l), λ l. elim l [ inl k ↦ absurd (n k) | inr k ↦ k.1 ])
]

pub edges_step : (a b : List Edge) (k : ℕ) (d : Edge) → k < length a → k < length b → (Before (get_or a k d) (get_or b k d) → ⊥) → (Before (get_or b k d) (get_or a k d) → ⊥) → EdgesLess Before (drop (k + 1) a) (drop (k + 1) b) ↔ EdgesLess Before (drop k a) (drop k b)
edges_step a b k d l m n p =
    subst (λ z. EdgesLess Before (drop (k + 1) a) (drop (k + 1) b) ↔ EdgesLess Before z (drop k b)) (sym (drop_more a k d l))
    (subst (λ z. EdgesLess Before (drop (k + 1) a) (drop (k + 1) b) ↔ EdgesLess Before (get_or a k d ∷ drop (k + 1) a) z) (sym (drop_more b k d m))
    (step_cases (get_or a k d) (get_or b k d) (drop (k + 1) a) (drop (k + 1) b) n p))

pub edges_decided : (a b : List Edge) (k : ℕ) (d : Edge) → k < length a → k < length b → Before (get_or a k d) (get_or b k d) → EdgesLess Before (drop k a) (drop k b)
edges_decided a b k d l m n =
    subst (λ z. EdgesLess Before z (drop k b)) (sym (drop_more a k d l)) (subst (λ z. EdgesLess Before (get_or a k d ∷ drop (k + 1) a) z) (sym (drop_more b k d m)) (inl n))

pub edges_refused : (a b : List Edge) (k : ℕ) (d : Edge) → k < length a → k < length b → Before (get_or b k d) (get_or a k d) → EdgesLess Before (drop k a) (drop k b) → ⊥
edges_refused a b k d l m n h =
    elim (subst (λ z. EdgesLess Before (get_or a k d ∷ drop (k + 1) a) z) (drop_more b k d m) (subst (λ z. EdgesLess Before z (drop k b)) (drop_more a k d l) h)) [
      | inl q ↦ before_asymmetric (get_or a k d) (get_or b k d) q n
      | inr q ↦ before_irreflexive (get_or b k d) (subst (λ z. Before (get_or b k d) z) q.0 n)
    ]

pub edges_go_on : (a b : List Edge) (k : ℕ) (d : Edge) → k < length a → length b ≤ k → EdgesLess Before (drop k a) (drop k b)
edges_go_on a b k d l m =
    subst (λ z. EdgesLess Before z (drop k b)) (sym (drop_more a k d l)) (subst (λ z. EdgesLess Before (get_or a k d ∷ drop (k + 1) a) z) (sym (drop_all k b m)) tt)

pub edges_end : (a b : List Edge) (k : ℕ) → length a ≤ k → EdgesLess Before (drop k a) (drop k b) → ⊥
edges_end a b k l h = subst (λ z. EdgesLess Before z (drop k b)) (drop_all k a l) h

-- each turn over two lists of edges
pub ruleset edges_steps = (edges_step, edges_decided, edges_refused, edges_go_on, edges_end)

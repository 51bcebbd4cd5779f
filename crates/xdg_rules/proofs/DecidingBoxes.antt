-- What can be decided of the values that remain in a box, of its edges and of its entries.
use Rattle.std.proofs.Common.{◌≡◌, ℕ, ◌<◌, ◌≤◌, inl, inr, Bool, true, false, List, [], ◌∷◌, length, subst}
use Rattle.std.specs.Prelude.{All, Contains, slice_index_or}
use Rattle.std.proofs.lemmas.Bool.{cases_Bool, both_ways}
use Rattle.std.proofs.lemmas.List.Elements.{All-contains, All-contains_itself, All-weaker}
use Rattle.xdg_problem.specs.declared.analysis.Edge.{Edge}
use Rattle.xdg_facts.proofs.Decided.{Decided, decided_like, decided_both, decided_from, decided_equal, decided_most, decided_below, decided_all, decided_contains, decided_either, decided_true, decided_not, decided_some_below, decided_as}
use Rattle.xdg_problem.proofs.Edges.{same_edge_itself, same_edge_equal}
use Rattle.xdg_problem.specs.Places.{same_edge}
use Rattle.xdg_problem.specs.Boxes.{Has, IsOnly, entry_decision}
use Rattle.xdg_rules.specs.Rules.{EachEntry, IsDecided, HasNoneWithin, IsGreatest, IsLeast, ComesBefore}
use Rattle.xdg_facts.proofs.Lists.{true_within}

pub decided_has : (box : List (List Bool)) (d v : ℕ) → Decided (Has box d v)
decided_has box d v = decided_true (slice_index_or (slice_index_or box d []) v false)

module _ (box : List (List Bool)) (d : ℕ) (P : ℕ → Type 0) (each : (v : ℕ) → Decided (P v)) where
  -- each value that remains
  pub decided_remaining : Decided ((v : ℕ) → Has box d v → P v)
  decided_remaining = decided_like ((v : ℕ) → v < length (slice_index_or box d []) → Has box d v → P v) ((v : ℕ) → Has box d v → P v)
      (λ all v has. all v (true_within (slice_index_or box d []) v has) has)
      (λ all v l has. all v has)
      (decided_below (λ v. Has box d v → P v) (length (slice_index_or box d [])) (λ v. decided_from (Has box d v) (P v) (decided_has box d v) (each v)))

  -- some value that remains
  pub decided_some : Decided ((v : ℕ) × Has box d v × P v)
  decided_some = decided_like ((v : ℕ) × (v < length (slice_index_or box d [])) × (Has box d v × P v)) ((v : ℕ) × Has box d v × P v)
      (λ some. (some.0, some.2.0, some.2.1))
      (λ some. (some.0, true_within (slice_index_or box d []) some.0 some.1, (some.1, some.2)))
      (decided_some_below (λ v. Has box d v × P v) (length (slice_index_or box d [])) (λ v. decided_both (Has box d v) (P v) (decided_has box d v) (each v)))

pub decided_only : (box : List (List Bool)) (d v : ℕ) → Decided (IsOnly box d v)
decided_only box d v = decided_remaining box d (λ x. x ≡ v) (λ x. decided_equal x v)

pub decided_decided : (box : List (List Bool)) (d : ℕ) → Decided (IsDecided box d)
decided_decided box d = decided_some box d (IsOnly box d) (decided_only box d)

pub decided_each_entry : (box : List (List Bool)) (node : ℕ) (P : ℕ → Type 0) → ((c : ℕ) → Decided (P c)) → Decided (EachEntry box node P)
decided_each_entry box node P each = decided_remaining box (entry_decision node) P each

-- lists of numbers, and edges

pub decided_edges : (a b : Edge) → Decided (a ≡ b)
decided_edges a b = elim (cases_Bool (same_edge a b)) [
  | inl same ↦ inl (same_edge_equal a b same)
  | inr other ↦ inr (λ e. both_ways (same_edge a b) other (subst (λ x. same_edge a x ≡ true) e (same_edge_itself a)))
]

-- cardinalities

pub decided_none_within : (cardinality : List ℕ) (least most : ℕ) → Decided (HasNoneWithin cardinality least most)
decided_none_within cardinality least most = decided_like (All (λ k. least ≤ k → k ≤ most → ⊥) cardinality) (HasNoneWithin cardinality least most)
    (λ all k c. All-contains (λ k. least ≤ k → k ≤ most → ⊥) cardinality k all c)
    (λ none. All-weaker (Contains cardinality) (λ k. least ≤ k → k ≤ most → ⊥) none cardinality (All-contains_itself cardinality))
    (decided_all (λ k. least ≤ k → k ≤ most → ⊥) cardinality (λ k. decided_from (least ≤ k) (k ≤ most → ⊥) (decided_most least k) (decided_not (k ≤ most) (decided_most k most))))

pub decided_greatest : (box : List (List Bool)) (node : ℕ) (row : ℕ → List ℕ) (number : ℕ) → Decided (IsGreatest box node row number)
decided_greatest box node row number = decided_as _ _
    (decided_both _ _ (decided_some box (entry_decision node) (λ c. Contains (row c) number) (λ c. decided_contains (row c) number))
    (decided_each_entry box node (λ c. All (λ k. k ≤ number) (row c)) (λ c. decided_all (λ k. k ≤ number) (row c) (λ k. decided_most k number))))
    (λ both. record { entry = both.0.0; remains = both.0.1; allowed = both.0.2; most = both.1 })
    (λ is. ((is.entry, is.remains, is.allowed), is.most))

pub decided_least : (box : List (List Bool)) (node : ℕ) (row : ℕ → List ℕ) (number : ℕ) → Decided (IsLeast box node row number)
decided_least box node row number = decided_as _ _
    (decided_both _ _ (decided_some box (entry_decision node) (λ c. Contains (row c) number) (λ c. decided_contains (row c) number))
    (decided_each_entry box node (λ c. All (λ k. number ≤ k) (row c)) (λ c. decided_all (λ k. number ≤ k) (row c) (λ k. decided_most number k))))
    (λ both. record { entry = both.0.0; remains = both.0.1; allowed = both.0.2; least = both.1 })
    (λ is. ((is.entry, is.remains, is.allowed), is.least))

pub decided_comes : (order : List ℕ) (l m : ℕ) → Decided (ComesBefore order l m)
decided_comes [] l m = inr (λ none. none)
decided_comes (label ∷ order) l m = decided_either ((label ≡ l) × Contains order m) (ComesBefore order l m) (decided_both (label ≡ l) (Contains order m) (decided_equal label l) (decided_contains order m)) (decided_comes order l m)

-- The least costs of entries, one after another.
use Rattle.std.proofs.Common.{◌≡◌, ℕ, ◌+◌, ◌<◌, zero, suc, Bool, true, false, cond, List, [], length, Some, refl, ap, ap₂, ◌∙◌, arith, subst}
use Rattle.std.specs.Prelude.{slice_index, slice_index_or}
use Rattle.std.proofs.lemmas.List.{get_or-map, length-map}
use Rattle.xdg_base.specs.declared.ids.EntryNo.{EntryNo}
use Rattle.xdg_problem.specs.declared.parts.Parts.{Parts}
use Rattle.xdg_problem.specs.Boxes.{entry_decision}
use Rattle.xdg_problem.specs.Costs.{CostLists, entry_cost}
use Rattle.xdg_rules.specs.Bounds.{sum_below, with_least, least_below, or_nothing, candidate_cost, node_cost}
use Rattle.xdg_rules.specs.Rules.{has}
use Rattle.xdg_engine.specs.CostRows.{entry_row}

module _ (remains : ℕ → Bool) (cost : ℕ → ℕ) (k : ℕ) where
  least_put : (b : Bool) → remains k ≡ b → least_below remains cost (k + 1) ≡ cond b (Some (with_least (cost k) (least_below remains cost k))) (least_below remains cost k)
  least_put b is = (let next : suc k ≡ k + 1 = omega arith in subst (λ j. least_below remains cost j ≡ cond b (Some (with_least (cost k) (least_below remains cost k))) (least_below remains cost k)) next
      (ap (λ c. cond c (Some (with_least (cost k) (least_below remains cost k))) (least_below remains cost k)) is))

  -- one that remains
  pub least_more : remains k ≡ true → least_below remains cost (k + 1) ≡ Some (with_least (cost k) (least_below remains cost k))
  least_more there = least_put true there

  -- one that doesn't
  pub least_same : remains k ≡ false → least_below remains cost (k + 1) ≡ least_below remains cost k
  least_same gone = least_put false gone

pub sum_more : (f : ℕ → ℕ) (k : ℕ) → sum_below f (k + 1) ≡ sum_below f k + f k
sum_more f k = (let next : suc k ≡ k + 1 = omega arith in subst (λ j. sum_below f j ≡ sum_below f k + f k) next refl)

least_costs : (remains : ℕ → Bool) (these those : ℕ → ℕ) (k : ℕ) → ((c : ℕ) → c < k → these c ≡ those c) → least_below remains these k ≡ least_below remains those k
least_costs remains these those zero same = refl
least_costs remains these those (suc k) same = ap₂ (λ x o. cond (remains k) (Some (with_least x o)) o) (same k (omega arith)) (least_costs remains these those k (λ c l. same c (omega (arith, l))))

-- what the row of a node says is what its candidates cost
pub row_node : (parts : Parts) (costs : CostLists) (box : List (List Bool)) (row : List ℕ) (node : ℕ) → row ≡ entry_row costs (slice_index_or parts.candidates node []) → or_nothing (least_below (has box (entry_decision node)) (slice_index row) (length row)) ≡ node_cost parts costs box node
row_node parts costs box row node is =
    let candidates : List EntryNo = slice_index_or parts.candidates node [] in
    ap (λ r. or_nothing (least_below (has box (entry_decision node)) (slice_index r) (length r))) is
    ∙ ap (λ n. or_nothing (least_below (has box (entry_decision node)) (slice_index (entry_row costs candidates)) n)) (length-map candidates (λ entry. entry_cost costs entry.0))
    ∙ ap or_nothing (least_costs (has box (entry_decision node)) (slice_index (entry_row costs candidates)) (candidate_cost parts costs node) (length candidates) (λ c l. get_or-map (λ entry. entry_cost costs entry.0) candidates c (record { 0 = 0 }) 0 l))

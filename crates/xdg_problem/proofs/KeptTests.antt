-- On a whole vector all tests of a principle together, with what it asks of all decisions, are its conditions.
use Rattle.std.proofs.Common.{◌≡◌, ℕ, ◌<◌, ◌↔◌, List, [], ◌∷◌, refl, sym, subst}
use Rattle.std.specs.Prelude.{All}
use Rattle.xdg_problem.specs.declared.analysis.Edge.{Edge}
use Rattle.xdg_problem.specs.declared.conditions.Condition.{Condition}
use Rattle.xdg_problem.specs.declared.conditions.Condition.TheVariants as conditions
use Rattle.xdg_problem.specs.declared.parts.Group.{Group}
use Rattle.xdg_problem.specs.declared.parts.Parts.{Parts}
use Rattle.xdg_problem.specs.declared.parts.Principle.{Principle}
use Rattle.xdg_problem.specs.declared.parts.Principle.TheVariants as principles
use Rattle.xdg_problem.specs.Places.{nodes}
use Rattle.xdg_problem.specs.Arguments.{first_dim, label_count, truth_of}
use Rattle.xdg_problem.specs.Asking.{AsksWhole}
use Rattle.xdg_problem.specs.Relations.{IsKept}
use Rattle.xdg_facts.proofs.Each.{none_kept, one_kept, two_kept, three_kept, chosen_kept}
use Rattle.xdg_problem.proofs.Passing.{PassesAt}
use Rattle.xdg_problem.proofs.EachTest.{Each}
use Rattle.xdg_problem.proofs.TreeTests.{cycle_tests, root_tests, mother_tests, in_tests, out_tests}
use Rattle.xdg_problem.proofs.AskedTests.{pair_tests, order_tests, between_tests, agr_tests, agree_tests, govern_tests, below_tests, blocked_tests, linked_tests, unlinked_tests}
use Rattle.xdg_facts.proofs.Facts.{both_steps, asked_alike}
use Rattle.xdg_problem.specs.Principles.{conditions_for, linking_of, way_in}

module _ (parts : Parts) (group : Group) (candidates attrs : List ℕ) (edges : List Edge) (some : 0 < nodes parts) (mothers : All (λ e. e.mother.0 < nodes parts) edges) (daughters : All (λ e. e.daughter.0 < nodes parts) edges) where
  abbrev Kept : Condition → Type 0
  Kept condition = IsKept parts group candidates attrs edges condition

  abbrev Whole : Principle → Type 0
  Whole principle = AsksWhole principle parts candidates attrs edges

  -- a principle that asks nothing of all decisions together
  alone : (A B : Type 0) → A ↔ B → (A × Unit {0}) ↔ B
  alone A B same = (λ a. same.0 a.0, λ b. (same.1 b, tt))

  -- a principle with one condition
  one : (A : Type 0) (condition : Condition) → A ↔ Kept condition → (A × Unit {0}) ↔ All Kept (condition ∷ [])
  one A condition tests = alone A (All Kept (condition ∷ [])) (both_steps tests (one_kept Kept condition))

  -- a principle that asks of all decisions together, by the empty tuple
  by_empty : (principle : Principle) → group.principle ≡ principle → (Unit {0} × Whole principle) ↔ ((tuple : List ℕ) → tuple ≡ [] → Whole group.principle)
  by_empty principle is = (λ both tuple none. subst Whole (sym is) both.1, λ kept. (tt, subst Whole is (kept [] refl)))

  pub kept_tests : (principle : Principle) → group.principle ≡ principle
      → (Each group.truths (nodes parts) (label_count parts (first_dim group)) (PassesAt parts group candidates attrs edges) principle × Whole principle) ↔ All Kept (conditions_for principle group.truths)
  kept_tests principles.Graph is = alone _ _ (none_kept Kept)
  kept_tests principles.Entries is = alone _ _ (none_kept Kept)
  kept_tests principles.Tree is = alone _ _ (
      let cycle = cycle_tests parts group candidates attrs edges some mothers in
      let root = root_tests parts group candidates attrs edges some in
      let mother = mother_tests parts group candidates attrs edges some mothers in
      let all = three_kept Kept conditions.Cycle conditions.Roots conditions.Mothers in (
        λ each. all.0 (cycle.0 each.1, root.0 each.2, mother.0 each.0),
        λ kept. (let k = all.1 kept in (mother.1 k.2, cycle.1 k.0, root.1 k.1)),
      ))
  kept_tests principles.Dag is = alone _ _ (
      let cycle = cycle_tests parts group candidates attrs edges some mothers in
      let root = root_tests parts group candidates attrs edges some in
      let pair = pair_tests parts group candidates attrs edges in
      let all = chosen_kept Kept (truth_of group.truths 0) (truth_of group.truths 1) conditions.Cycle conditions.Roots conditions.Pair in (
        λ each. all.0 (cycle.0 each.0, λ e. root.0 (each.1 e), λ e. pair.0 (each.2 e)),
        λ kept. (let k = all.1 kept in (cycle.1 k.0, λ e. root.1 (k.1 e), λ e. pair.1 (k.2 e))),
      ))
  kept_tests principles.Valency is = alone _ _ (
      let into = in_tests parts group candidates attrs edges some mothers in
      let out = out_tests parts group candidates attrs edges some daughters in
      let all = two_kept Kept conditions.InCount conditions.OutCount in (
        λ each. all.0 (into.0 each.1, out.0 each.0),
        λ kept. (let k = all.1 kept in (out.1 k.1, into.1 k.0)),
      ))
  kept_tests principles.Order is = one _ conditions.Order (order_tests parts group candidates attrs edges)
  kept_tests principles.Projectivity is = one _ conditions.Between (between_tests parts group candidates attrs edges)
  kept_tests principles.Agr is = one _ conditions.Agr (agr_tests parts group candidates attrs edges)
  kept_tests principles.Agreement is = one _ conditions.Agree (agree_tests parts group candidates attrs edges)
  kept_tests principles.Government is = one _ conditions.Govern (govern_tests parts group candidates attrs edges)
  kept_tests principles.Climbing is = one _ conditions.Below (below_tests parts group candidates attrs edges)
  kept_tests principles.Barriers is = one _ conditions.Blocked (blocked_tests parts group candidates attrs edges)
  kept_tests principles.LinkingNotDaughter is = one _ conditions.Link (unlinked_tests parts group candidates attrs edges is)
  kept_tests (principles.Rule formula) is = both_steps (by_empty (principles.Rule formula) is) (one_kept Kept conditions.Rule)
  kept_tests (principles.Bound costs bound) is = both_steps (by_empty (principles.Bound costs bound) is) (one_kept Kept conditions.Bound)
  kept_tests principle is = one _ conditions.Link (linked_tests parts group candidates attrs edges principle (way_in (linking_of principle)) is (λ c u l v few many same. asked_alike _ _ _ _ (λ some. some, λ some. some) same))

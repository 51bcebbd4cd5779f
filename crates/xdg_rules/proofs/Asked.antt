-- In a box that agrees with a whole vector, a rule or a bound takes nothing exactly where the vector's analysis is as it asks.
use Rattle.std.proofs.Common.{◌≡◌, ℕ, ◌≤◌, inl, inr, Bool, true, false, List, length, ap, ◌∙◌, arith}
use Rattle.std.proofs.lemmas.Bool.{cases_lt}
use Rattle.std.proofs.lemmas.List.{length-take-le}
use Rattle.xdg_problem.specs.declared.analysis.Edge.{Edge}
use Rattle.xdg_problem.specs.declared.formula.Formula.{Formula}
use Rattle.xdg_problem.specs.declared.parts.Group.{Group}
use Rattle.xdg_problem.specs.declared.parts.Parts.{Parts}
use Rattle.xdg_problem.specs.declared.parts.Principle.{Principle}
use Rattle.xdg_problem.specs.declared.parts.Principle.TheVariants as principles
use Rattle.xdg_problem.specs.Asking.{AsksWhole}
use Rattle.xdg_problem.specs.Boxes.{Has, IsBox, Agrees}
use Rattle.xdg_problem.specs.Claims.{Suits, claim}
use Rattle.xdg_problem.specs.Costs.{CostLists, total_cost}
use Rattle.xdg_problem.specs.Problems.{IsProblem, IsSuited}
use Rattle.xdg_problem.specs.Truths.{unbound, FormulaHolds, AreNodes}
use Rattle.xdg_problem.specs.Vectors.{shape, entry_places, entries_at, edges_in, analysis_of}
use Rattle.xdg_problem.proofs.VectorFacts.{entries_back, length_shape}
use Rattle.xdg_rules.specs.Bounds.{least_cost}
use Rattle.xdg_rules.specs.Rules.{TakesBy}
use Rattle.xdg_rules.specs.Worths.{RuleFalse}
use Rattle.xdg_rules.proofs.ClaimLaws.{agreeing_sound, agreeing_settled}
use Rattle.xdg_rules.proofs.Costing.{cost_whole, place_whole}
use Rattle.xdg_rules.proofs.Sizes.{some_value}
use Rattle.xdg_rules.proofs.Whole.{whole_fits}

module _ (parts : Parts) (group : Group) (box : List (List Bool)) (x : List ℕ) (problem : IsProblem parts) (is : IsBox (shape parts) box) (whole : length x ≡ length (shape parts)) (agrees : Agrees box x) where
  abbrev candidates : List ℕ
  candidates = entry_places parts.candidates (entries_at parts.candidates x)

  abbrev edges : List Edge
  edges = edges_in parts x

  -- the vector's analysis is as the principle asks of all decisions together
  abbrev Asked : Principle → Type 0
  Asked principle = AsksWhole principle parts candidates (analysis_of parts x).attrs edges

  are_nodes : AreNodes parts unbound
  are_nodes name = problem.some

  -- ---- rules

  made_true : (formula : Formula) → Suits parts formula → (RuleFalse parts formula box → ⊥) → FormulaHolds parts (analysis_of parts x) formula
  made_true formula suits not_false = elim (agreeing_settled parts problem (claim formula) unbound suits.is_of are_nodes box x is whole agrees) [
    | inl made ↦ agreeing_sound parts problem (claim formula) unbound suits.is_of are_nodes box x is whole agrees true made
    | inr fails ↦ absurd (not_false fails)
  ]

  -- ---- bounds

  chosen_length : length candidates ≡ length parts.candidates
  chosen_length =
      let long = length_shape parts in
      let short : length parts.candidates ≤ length x = omega (arith, long, whole) in
      ap length (entries_back parts x problem (whole_fits parts box x is agrees) short) ∙ length-take-le (length parts.candidates) x short

  cost_is : (costs : CostLists) → least_cost parts costs box ≡ total_cost costs (entries_at parts.candidates candidates) edges
  cost_is costs = cost_whole parts costs box x problem is whole agrees chosen_length

  -- ---- both

  -- where nothing that remains is taken, the analysis is as it asks
  pub asked_whole : (principle : Principle) → IsSuited principle parts → ((d v : ℕ) → Has box d v → TakesBy principle parts group box d v → ⊥) → Asked principle
  asked_whole (principles.Rule formula) suited none = (let some = some_value parts box problem is in made_true formula suited (none 0 some.0 some.1))
  asked_whole (principles.Bound costs bound) suited none =
      let some = some_value parts box problem is in
      let same = cost_is costs in
      elim (cases_lt (total_cost costs (entries_at parts.candidates candidates) edges) bound) [
        | inl less ↦ less
        | inr reached ↦ absurd (none 0 some.0 some.1 (inl (omega (arith, reached, same))))
      ]
  asked_whole principle suited none = tt

  -- and where it is as a rule or a bound asks, that takes nothing
  pub rule_takes_none : (formula : Formula) → Suits parts formula → Asked (principles.Rule formula) → RuleFalse parts formula box → ⊥
  rule_takes_none formula suits holds fails = agreeing_sound parts problem (claim formula) unbound suits.is_of are_nodes box x is whole agrees false fails holds

  pub bound_takes_none : (costs : CostLists) (bound : ℕ) → Asked (principles.Bound costs bound) → (d v : ℕ) → Has box d v → TakesBy (principles.Bound costs bound) parts group box d v → ⊥
  bound_takes_none costs bound asked d v has (inl reached) = (let same = cost_is costs in omega (arith, reached, asked, same))
  bound_takes_none costs bound asked d v has (inr place) = place_whole parts costs box x problem is whole agrees bound d v has place

-- The cheapest analysis.
use Rattle.std.specs.Prelude.{◌≡◌, ℕ, ◌<◌, ◌≤◌, true, false, List, [], length, Option, Some, None}
use Rattle.xdg_best.specs.declared.rounds.BestAnswer.{BestAnswer}
use Rattle.xdg_best.specs.Rounds.{Rounds, found_cost}
use Rattle.xdg_facts.specs.Listing.{IsListing}
use Rattle.xdg_facts.specs.Order.{Less}
use Rattle.xdg_problem.specs.declared.analysis.Analysis.{Analysis}
use Rattle.xdg_problem.specs.declared.parts.Parts.{Parts}
use Rattle.xdg_problem.specs.Costs.{CostLists, cost_of}
use Rattle.xdg_problem.specs.Solutions.{IsSolution}
use Rattle.xdg_problem.specs.Vectors.{shape, vector}
use Rattle.xdg_rules.specs.Boxed.{Boxed}

-- a solution: none costs less, and none before it costs as little
pub record IsCheapest (parts : Parts) (costs : CostLists) (analysis : Analysis) : Type 0 where
  pub solution : IsSolution parts analysis
  pub least : (other : Analysis) → IsSolution parts other → cost_of costs analysis ≤ cost_of costs other
  pub first : (other : Analysis) → IsSolution parts other → Less (vector parts other) (vector parts analysis) → cost_of costs analysis < cost_of costs other

-- the cheapest analysis, or where there is none, no solution
abbrev pub IsBest : Parts → CostLists → Option Analysis → Type 0
IsBest parts costs None = (analysis : Analysis) → IsSolution parts analysis → ⊥
IsBest parts costs (Some analysis) = IsCheapest parts costs analysis

-- what was found is a solution, if something was found
abbrev pub Solves : Parts → Option Analysis → Type 0
Solves parts None = Unit {0}
Solves parts (Some analysis) = IsSolution parts analysis

-- What rounds with a budget come to: a solution, or nothing. Where they aren't spent it is the cheapest analysis, and where they are spent the problem,
-- without a bound, has at least as many boxed prefixes as the budget.
pub record IsAnswer (parts : Parts) (costs : CostLists) (budget : ℕ) (answer : BestAnswer) : Type 0 where
  pub rounds : Rounds parts costs answer.found answer.spent None budget
  pub cost : answer.cost ≡ found_cost costs answer.found
  pub solution : Solves parts answer.found
  pub best : answer.spent ≡ false → IsBest parts costs answer.found
  pub reached : answer.spent ≡ true → (counted : List (List ℕ)) → IsListing (shape parts) (Boxed parts) [] counted → budget ≤ length counted

-- rounds come to one thing
abbrev pub IsOneAnswer : Parts → CostLists → ℕ → Type 0
IsOneAnswer parts costs budget = (one other : BestAnswer) → IsAnswer parts costs budget one → IsAnswer parts costs budget other → one ≡ other

-- Rounds of a search, each behind what the one before it found and below its cost.
use Rattle.std.specs.Prelude.{◌≡◌, ℕ, ◌+◌, ◌-◌, ◌<◌, ◌≤◌, Bool, true, nat_lt, List, [], ◌∷◌, ◌++◌, length, filter, take, Option, Some, None}
use Rattle.xdg_facts.specs.Listing.{IsListing}
use Rattle.xdg_facts.specs.Whole.{is_whole}
use Rattle.xdg_problem.specs.declared.analysis.Analysis.{Analysis}
use Rattle.xdg_problem.specs.declared.parts.Parts.{Parts}
use Rattle.xdg_problem.specs.Analyses.{IsAnalysis}
use Rattle.xdg_problem.specs.Costs.{CostLists, cost_of}
use Rattle.xdg_problem.specs.Further.{bound_of, with_uses}
use Rattle.xdg_problem.specs.Vectors.{shape, vector}
use Rattle.xdg_rules.specs.Boxed.{Boxed}
use Rattle.xdg_stream.specs.Streamed.{start_vector}

-- the problem of a round: where something was found, only what costs less is a solution
abbrev pub round_parts : Parts → CostLists → Option Analysis → Parts
round_parts parts costs None = parts
round_parts parts costs (Some last) = with_uses parts (bound_of parts costs (cost_of costs last))

-- what was found costs so much
abbrev pub found_cost : CostLists → Option Analysis → ℕ
found_cost costs None = 0
found_cost costs (Some found) = cost_of costs found

-- Over the one list of the boxed prefixes after a start: the first whole one stands at a place, counted from 1, which the budget
-- reaches, and is the vector of the find.
pub record Finds (parts : Parts) (start : List ℕ) (budget : ℕ) (found : Analysis) (place : ℕ) : Type 0 where
  pub fits : IsAnalysis parts found
  pub before : List (List ℕ)
  pub behind : List (List ℕ)
  pub counted : IsListing (shape parts) (Boxed parts) start (before ++ vector parts found ∷ behind)
  pub first : filter (is_whole (shape parts)) before ≡ []
  pub place_is : place ≡ length before + 1
  pub within : place ≤ budget

-- Over that list: none of those that the budget reaches is whole; it is spent where there are more than those.
pub record FindsNone (parts : Parts) (start : List ℕ) (budget : ℕ) (spent : Bool) : Type 0 where
  pub counted : List (List ℕ)
  pub counted_are : IsListing (shape parts) (Boxed parts) start counted
  pub none : filter (is_whole (shape parts)) (take budget counted) ≡ []
  pub spent_is : spent ≡ nat_lt budget (length counted)

-- The rounds behind what was found last, with the budget that is left, up to what is found in the end: they end where no budget is
-- left, spent, or in a round that finds nothing. After each other one comes a round behind its find, and the place of the find is
-- taken off the budget.
pub data Rounds (parts : Parts) (costs : CostLists) (found : Option Analysis) (spent : Bool) : Option Analysis → ℕ → Type 0 where
  used_up : (last : Option Analysis) (left : ℕ) → left ≡ 0 → found ≡ last → spent ≡ true → Rounds parts costs found spent last left
  ends : (last : Option Analysis) (left : ℕ) → 0 < left → FindsNone (round_parts parts costs last) (start_vector parts last) left spent → found ≡ last
      → Rounds parts costs found spent last left
  goes_on : (last : Option Analysis) (left : ℕ) (next : Analysis) (place : ℕ) → Finds (round_parts parts costs last) (start_vector parts last) left next place
      → Rounds parts costs found spent (Some next) (left - place) → Rounds parts costs found spent last left

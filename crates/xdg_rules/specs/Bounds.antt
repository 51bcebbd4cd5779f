-- What the decisions of a box cost at the least, and the rules that a bound on costs is.
use Rattle.std.specs.Prelude.{ℕ, zero, suc, ◌+◌, ◌≤◌, ◌&&◌, Bool, cond, not, List, [], Option, Some, None, filter, length, Contains, slice_index_or}
use Rattle.std.specs.List.{sum_by}
use Prim.Native.Nat.{min}
use Rattle.xdg_problem.specs.declared.analysis.Edge.{Edge}
use Rattle.xdg_problem.specs.declared.parts.Parts.{Parts}
use Rattle.xdg_problem.specs.Boxes.{Has, entry_decision, edge_decision}
use Rattle.xdg_problem.specs.Costs.{CostLists, entry_cost, label_cost}
use Rattle.xdg_problem.specs.Places.{nodes, places}
use Rattle.xdg_rules.specs.Remaining.{has, SaysPresent}

-- ---- the least cost

-- a number for each of the first numbers, together
abbrev pub sum_below : (ℕ → ℕ) → ℕ → ℕ
sum_below f zero = 0
sum_below f (suc k) = sum_below f k + f k

-- the lesser of a cost and of the least of others, where there are others
abbrev pub with_least : ℕ → Option ℕ → ℕ
with_least cost None = cost
with_least cost (Some least) = min cost least

-- the least cost of those among the first numbers that remain
abbrev pub least_below : (ℕ → Bool) → (ℕ → ℕ) → ℕ → Option ℕ
least_below remains cost zero = None
least_below remains cost (suc k) = cond (remains k) (Some (with_least (cost k) (least_below remains cost k))) (least_below remains cost k)

abbrev pub or_nothing : Option ℕ → ℕ
or_nothing None = 0
or_nothing (Some cost) = cost

-- what the candidate of a node at a place costs
abbrev pub candidate_cost : Parts → CostLists → ℕ → ℕ → ℕ
candidate_cost parts costs node place = entry_cost costs (slice_index_or (slice_index_or parts.candidates node []) place (record { 0 = 0 })).0

-- the least cost of the entries of a node that remain
abbrev pub node_cost : Parts → CostLists → List (List Bool) → ℕ → ℕ
node_cost parts costs box node =
    or_nothing (least_below (has box (entry_decision node)) (candidate_cost parts costs node) (length (slice_index_or parts.candidates node [])))

-- what an edge costs
abbrev pub edge_cost : CostLists → Edge → ℕ
edge_cost costs e = label_cost costs e.dim.0 e.label.0

-- the edges of all dimensions that must be present
abbrev pub must_places : Parts → List (List Bool) → List Edge
must_places parts box = filter (λ e. has box (edge_decision parts e) 0 && not (has box (edge_decision parts e) 1)) (places parts)

-- what an analysis of the box costs at the least: the least costs of the entries that remain, and the costs of the edges that must be
abbrev pub least_cost : Parts → CostLists → List (List Bool) → ℕ
least_cost parts costs box = sum_below (node_cost parts costs box) (nodes parts) + sum_by (edge_cost costs) (must_places parts box)

-- ---- the rules

-- the least cost reaches the bound: then all is taken
abbrev pub BoundReached : Parts → CostLists → ℕ → List (List Bool) → Type 0
BoundReached parts costs bound box = bound ≤ least_cost parts costs box

-- the presence of an edge that need not be, with which the least cost reaches the bound
pub record BoundPlace (parts : Parts) (costs : CostLists) (bound : ℕ) (box : List (List Bool)) (d v : ℕ) : Type 0 where
  pub place : Edge
  pub is : Contains (places parts) place
  pub says : SaysPresent parts place d v
  pub free : Has box (edge_decision parts place) 1
  pub reaches : bound ≤ least_cost parts costs box + edge_cost costs place

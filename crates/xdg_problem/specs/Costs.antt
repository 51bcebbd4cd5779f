-- What entries, edges and analyses cost.
use Rattle.std.specs.Prelude.{◌≡◌, ◌≢◌, ℕ, ◌+◌, ◌==◌, ◌&&◌, List, [], ◌∷◌, cond, AllPairs}
use Rattle.std.specs.List.{sum_by}
use Rattle.xdg_base.specs.declared.ids.DimId.{DimId}
use Rattle.xdg_base.specs.declared.ids.EntryNo.{EntryNo}
use Rattle.xdg_base.specs.declared.ids.LabelId.{LabelId}
use Rattle.xdg_problem.specs.declared.analysis.Analysis.{Analysis}
use Rattle.xdg_problem.specs.declared.analysis.Edge.{Edge}

-- the costs of some entries, and of the edges of some dimensions with a label
pub record CostLists : Type 0 where
  pub entries : List (EntryNo × ℕ)
  pub labels : List (DimId × LabelId × ℕ)

-- no entry number and no dimension with a label stands twice
pub record AreCosts (entries : List (EntryNo × ℕ)) (labels : List (DimId × LabelId × ℕ)) : Type 0 where
  pub entries_differ : AllPairs (λ a b. a.0.0 ≢ b.0.0) entries
  pub labels_differ : AllPairs (λ a b. a.0.0 ≡ b.0.0 → a.1.0 ≢ b.1.0) labels

-- what an entry number costs by a list, 0 where it doesn't stand there
abbrev pub entry_cost_in : List (EntryNo × ℕ) → ℕ → ℕ
entry_cost_in [] number = 0
entry_cost_in (one ∷ more) number = cond (one.0.0 == number) one.1 (entry_cost_in more number)

-- what an edge of a dimension with a label costs by a list, 0 where these don't stand there
abbrev pub label_cost_in : List (DimId × LabelId × ℕ) → ℕ → ℕ → ℕ
label_cost_in [] dim label = 0
label_cost_in (one ∷ more) dim label = cond ((one.0.0 == dim) && (one.1.0 == label)) one.2 (label_cost_in more dim label)

-- what the entry with a number costs
abbrev pub entry_cost : CostLists → ℕ → ℕ
entry_cost costs number = entry_cost_in costs.entries number

-- what an edge of a dimension with a label costs
abbrev pub label_cost : CostLists → ℕ → ℕ → ℕ
label_cost costs dim label = label_cost_in costs.labels dim label

-- what entries and edges cost together
abbrev pub total_cost : CostLists → List EntryNo → List Edge → ℕ
total_cost costs entries edges = sum_by (λ entry. entry_cost costs entry.0) entries + sum_by (λ e. label_cost costs e.dim.0 e.label.0) edges

-- what an analysis costs: its entries and its edges
abbrev pub cost_of : CostLists → Analysis → ℕ
cost_of costs analysis = total_cost costs analysis.entries analysis.edges

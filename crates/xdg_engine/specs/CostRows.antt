-- What entries and edges cost, by node and by dimension.
use Rattle.std.specs.Prelude.{◌≡◌, ℕ, ◌<◌, List, [], map, slice_index, slice_index_or}
use Rattle.xdg_base.specs.declared.ids.EntryNo.{EntryNo}
use Rattle.xdg_problem.specs.declared.parts.Parts.{Parts}
use Rattle.xdg_problem.specs.Costs.{CostLists, entry_cost, label_cost}

-- what candidates cost
abbrev pub entry_row : CostLists → List EntryNo → List ℕ
entry_row costs candidates = map (λ entry. entry_cost costs entry.0) candidates

-- what the candidates of each node cost
abbrev pub entry_rows : CostLists → Parts → List (List ℕ)
entry_rows costs parts = map (entry_row costs) parts.candidates

-- for each of eight dimensions, in it for each of 32 labels, what an edge costs
abbrev pub AreLabelCosts : CostLists → List (List ℕ) → Type 0
AreLabelCosts costs rows = (dim label : ℕ) → dim < 8 → label < 32 → slice_index (slice_index_or rows dim []) label ≡ label_cost costs dim label

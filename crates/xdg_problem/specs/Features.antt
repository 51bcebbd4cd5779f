-- The features of a node's entry.
use Rattle.std.specs.Prelude.{ℕ, ◌≤◌, List, [], slice_index_or, Contains}
use Rattle.xdg_problem.specs.declared.parts.Feat.{Feat}
use Rattle.xdg_problem.specs.declared.parts.Group.{Group}

abbrev no_feature : Feat
no_feature = record { rows = [] }

-- the row of a feature argument at a label, for a candidate of a node; a set has its one row at 0
abbrev pub row : Group → ℕ → ℕ → ℕ → ℕ → List ℕ
row group node candidate argument label =
    slice_index_or (slice_index_or (slice_index_or (slice_index_or group.feats node []) candidate []) argument no_feature).rows label []

-- the numbers of edges with a label that may enter a node: the first argument of valency
abbrev pub in_row : Group → ℕ → ℕ → ℕ → List ℕ
in_row group node candidate label = row group node candidate 0 label

-- the numbers of edges with a label that may leave a node: the second argument of valency
abbrev pub out_row : Group → ℕ → ℕ → ℕ → List ℕ
out_row group node candidate label = row group node candidate 1 label

-- the members of a set: the first feature argument of agr, agreement, barriers and linkingNotDaughter
abbrev pub set_row : Group → ℕ → ℕ → List ℕ
set_row group node candidate = row group node candidate 0 0

-- the set that a map has at a label: the first feature argument of government and of the other linkings
abbrev pub map_row : Group → ℕ → ℕ → ℕ → List ℕ
map_row group node candidate label = row group node candidate 0 label

-- a number is at most the greatest of a cardinality
abbrev pub IsWithin : List ℕ → ℕ → Type 0
IsWithin cardinality number = (greatest : ℕ) × Contains cardinality greatest × (number ≤ greatest)

-- Edges that need not be and cost too much.
use Rattle.std.specs.Prelude.{◌≤◌, ◌<◌, ℕ, Bool, List, [], slice_index, slice_index_or}
use Rattle.xdg_problem.specs.declared.parts.Group.{Group}
use Rattle.xdg_problem.specs.declared.parts.Parts.{Parts}
use Rattle.xdg_problem.specs.Analyses.{IsPlace}
use Rattle.xdg_problem.specs.Boxes.{Has, IsBox, LiesIn, edge_decision}
use Rattle.xdg_problem.specs.Places.{edge, nodes}
use Rattle.xdg_problem.specs.Vectors.{shape}
use Rattle.xdg_graph.specs.Edges.{edge_labels}
use Rattle.xdg_rules.specs.Rules.{Takes}

-- an edge with a label costs as much as there is room for
abbrev pub Dear : List ℕ → ℕ → ℕ → Type 0
Dear row room label = room ≤ slice_index row label

-- in each box inside, the principle use takes each edge of a dimension with a label that need not be
abbrev pub TakesFree : Parts → Group → List (List Bool) → ℕ → ℕ → Type 0
TakesFree parts group start dim label =
    (box : List (List Bool)) → IsBox (shape parts) box → LiesIn box start → (m x : ℕ) → IsPlace parts (edge dim m label x)
    → Has box (edge_decision parts (edge dim m label x)) 1 → Takes parts group box (edge_decision parts (edge dim m label x)) 0

-- none of these edges out of the first nodes is left open
abbrev pub NoneFree : Parts → ℕ → ℕ → ℕ → List (List Bool) → Type 0
NoneFree parts dim label k box =
    (m x : ℕ) → m < k → IsPlace parts (edge dim m label x) → Has box (edge_decision parts (edge dim m label x)) 0
    → Has box (edge_decision parts (edge dim m label x)) 1 → ⊥

-- none of those with one of the first labels that cost too much
abbrev pub OfLabels : List ℕ → ℕ → ℕ → ℕ → Parts → List (List Bool) → Type 0
OfLabels row room dim k parts box = (label : ℕ) → label < k → Dear row room label → NoneFree parts dim label (nodes parts) box

-- none of those of the first dimensions
abbrev pub OfDims : List (List ℕ) → ℕ → ℕ → Parts → List (List Bool) → Type 0
OfDims rows room k parts box = (dim : ℕ) → dim < k → OfLabels (slice_index_or rows dim []) room dim (edge_labels parts dim) parts box

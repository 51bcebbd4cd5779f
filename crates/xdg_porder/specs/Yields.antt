-- Yields: the nodes below daughters, in a box whose edges are decided.
use Rattle.std.specs.Prelude.{ℕ, ◌<◌, ◌≤◌, ◌⊎◌, Bool, List, length}
use Rattle.xdg_nodeset.specs.Tables.{InTable}
use Rattle.xdg_problem.specs.declared.parts.Group.{Group}
use Rattle.xdg_problem.specs.declared.parts.Parts.{Parts}
use Rattle.xdg_problem.specs.Analyses.{IsPlace}
use Rattle.xdg_problem.specs.Arguments.{first_dim}
use Rattle.xdg_problem.specs.Boxes.{May, Must}
use Rattle.xdg_problem.specs.Places.{nodes}
use Rattle.xdg_graph.specs.Edges.{edge_labels}
use Rattle.xdg_porder.specs.Items.{MayFollow, MayStand, edge_to, label_at}

-- each edge from u with a label that may be must be
abbrev pub IsLabelSettled : Parts → Group → ℕ → ℕ → List (List Bool) → Type 0
IsLabelSettled parts group u label box =
    (v : ℕ) → IsPlace parts (edge_to group u label v) → May parts box (edge_to group u label v) → Must parts box (edge_to group u label v)

-- each edge from u
abbrev pub IsNodeSettled : Parts → Group → ℕ → List (List Bool) → Type 0
IsNodeSettled parts group u box = (label : ℕ) → label < edge_labels parts (first_dim group) → IsLabelSettled parts group u label box

-- each edge
abbrev pub AreSettled : Parts → Group → List (List Bool) → Type 0
AreSettled parts group box = (u : ℕ) → u < nodes parts → IsNodeSettled parts group u box

-- by a table, x stands in an item of u with a label, or is below it
abbrev pub StandsBelow : Parts → Group → List (List ℕ) → List (List Bool) → ℕ → ℕ → ℕ → Type 0
StandsBelow parts group table box u label x = MayStand parts group box u label x ⊎ ((v : ℕ) × MayFollow parts group box u label v × InTable table v x)

-- the same with the label at a place of the order
abbrev pub StandsAt : Parts → Group → List (List ℕ) → List (List Bool) → ℕ → ℕ → ℕ → Type 0
StandsAt parts group table box u i x = StandsBelow parts group table box u (label_at group i) x

-- with the labels at two places of the order, y with the later one stands at or left of x with the earlier one
abbrev pub IsBrokenAt : Parts → Group → List (List ℕ) → List (List Bool) → ℕ → Type 0
IsBrokenAt parts group table box u =
    (i j x y : ℕ) × (i < j) × (j < length group.order) × StandsAt parts group table box u i x × StandsAt parts group table box u j y × (y ≤ x)

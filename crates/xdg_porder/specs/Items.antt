-- The items of a node under labels: its daughters, and the node itself under its own label; and where the code stands in them.
use Rattle.std.specs.Prelude.{◌≡◌, ◌≢◌, ℕ, ◌<◌, ◌≤◌, ◌⊎◌, true, Bool, List, length, slice_index_or}
use Rattle.xdg_problem.specs.declared.analysis.Edge.{Edge}
use Rattle.xdg_problem.specs.declared.parts.Group.{Group}
use Rattle.xdg_problem.specs.declared.parts.Parts.{Parts}
use Rattle.xdg_problem.specs.declared.parts.Principle.TheVariants as principles
use Rattle.xdg_problem.specs.Analyses.{IsPlace}
use Rattle.xdg_problem.specs.Arguments.{first_dim, order_of}
use Rattle.xdg_problem.specs.Boxes.{Has, IsOnly, LiesIn, May, Must, edge_decision}
use Rattle.xdg_problem.specs.Places.{edge, nodes}
use Rattle.xdg_problem.specs.Problems.{IsGroup}
use Rattle.xdg_rules.specs.Rules.{ComesBefore, Takes, attr_of_node}
use Rattle.xdg_store.specs.States.{State, Known}
use Rattle.xdg_facts.specs.Rises.{has}

-- the edge of the principle use's dimension from u with a label to v
abbrev pub edge_to : Group → ℕ → ℕ → ℕ → Edge
edge_to group u label v = edge (first_dim group) u label v

-- v may be a daughter of u with a label
abbrev pub MayFollow : Parts → Group → List (List Bool) → ℕ → ℕ → ℕ → Type 0
MayFollow parts group box u label v = IsPlace parts (edge_to group u label v) × May parts box (edge_to group u label v)

-- v must be one
abbrev pub MustFollow : Parts → Group → List (List Bool) → ℕ → ℕ → ℕ → Type 0
MustFollow parts group box u label v = IsPlace parts (edge_to group u label v) × Must parts box (edge_to group u label v)

-- the own label of u may be this one
abbrev pub MayOwn : Parts → Group → List (List Bool) → ℕ → ℕ → Type 0
MayOwn parts group box u label = Has box (attr_of_node parts group 0 u) label

-- it must be
abbrev pub MustOwn : Parts → Group → List (List Bool) → ℕ → ℕ → Type 0
MustOwn parts group box u label = MayOwn parts group box u label × IsOnly box (attr_of_node parts group 0 u) label

-- v may be an item of u with a label
abbrev pub MayStand : Parts → Group → List (List Bool) → ℕ → ℕ → ℕ → Type 0
MayStand parts group box u label v = ((v ≡ u) × MayOwn parts group box u label) ⊎ MayFollow parts group box u label v

-- it must be
abbrev pub MustStand : Parts → Group → List (List Bool) → ℕ → ℕ → ℕ → Type 0
MustStand parts group box u label v = ((v ≡ u) × MustOwn parts group box u label) ⊎ MustFollow parts group box u label v

-- ---- nothing is left to take

-- no item with the later label may stand at or left of one with the earlier label that must be
abbrev pub IsLeftDone : Parts → Group → ℕ → ℕ → ℕ → List (List Bool) → Type 0
IsLeftDone parts group u earlier later box = (v w : ℕ) → MayStand parts group box u later v → MustStand parts group box u earlier w → v ≤ w → ⊥

-- no item with the earlier label may stand at or right of one with the later label that must be
abbrev pub IsRightDone : Parts → Group → ℕ → ℕ → ℕ → List (List Bool) → Type 0
IsRightDone parts group u earlier later box = (v w : ℕ) → MayStand parts group box u earlier v → MustStand parts group box u later w → w ≤ v → ⊥

-- both
abbrev pub IsPairDone : Parts → Group → ℕ → ℕ → ℕ → List (List Bool) → Type 0
IsPairDone parts group u earlier later box = IsLeftDone parts group u earlier later box × IsRightDone parts group u earlier later box

-- the label at a place of the order
abbrev pub label_at : Group → ℕ → ℕ
label_at group i = slice_index_or (order_of group) i 0

-- nothing at a node, with the label at a place of the order and the one at a later place
abbrev pub IsNodeDone : Parts → Group → ℕ → List (List Bool) → Type 0
IsNodeDone parts group u box = (i j : ℕ) → i < j → j < length group.order → IsPairDone parts group u (label_at group i) (label_at group j) box

-- nothing at the first nodes
abbrev pub AreMothersDone : Parts → Group → ℕ → List (List Bool) → Type 0
AreMothersDone parts group k box = (u : ℕ) → u < k → IsNodeDone parts group u box

-- nothing at the nodes outside a set
abbrev pub AreOthersDone : List ℕ → Parts → Group → List (List Bool) → Type 0
AreOthersDone set parts group box = (u : ℕ) → u < nodes parts → (has set u ≡ true → ⊥) → IsNodeDone parts group u box

-- of the edges from u with a label those to the nodes of a set may be no more
abbrev pub NoneFollow : Parts → Group → ℕ → ℕ → List ℕ → List (List Bool) → Type 0
NoneFollow parts group u label set box = (v : ℕ) → has set v ≡ true → May parts box (edge_to group u label v) → ⊥

-- no node of a set may be an item of u with a label
abbrev pub NoneStand : Parts → Group → ℕ → ℕ → List ℕ → List (List Bool) → Type 0
NoneStand parts group u label set box = (v : ℕ) → has set v ≡ true → MayStand parts group box u label v → ⊥

-- ---- what may be taken

-- an item v with a label l stands on the wrong side of an item w with a label m
abbrev pub IsWrong : Group → ℕ → ℕ → ℕ → ℕ → Type 0
IsWrong group l m v w = (ComesBefore (order_of group) m l × (v ≤ w)) ⊎ (ComesBefore (order_of group) l m × (w ≤ v))

-- as an item of u with a label each node of a set would stand on the wrong side of one that must be
abbrev pub AreWrong : Group → ℕ → ℕ → List ℕ → State → Type 0
AreWrong group u label set s = (v : ℕ) → has set v ≡ true → (m : ℕ) × (w : ℕ) × MustStand s.parts group s.now u m w × IsWrong group label m v w

-- from a box around, the principle use takes the edges from u with a label to the nodes of a set
abbrev pub TakesEdges : Group → ℕ → ℕ → List ℕ → State → Type 0
TakesEdges group u label set s =
    (around : List (List Bool)) × LiesIn s.now around
    × ((v : ℕ) → has set v ≡ true → IsPlace s.parts (edge_to group u label v) × Takes s.parts group around (edge_decision s.parts (edge_to group u label v)) 0)

-- it takes the nodes of a set out of the items of u with a label
abbrev pub TakesItems : Group → ℕ → ℕ → List ℕ → State → Type 0
TakesItems group u label set s =
    (has set u ≡ true → MayOwn s.parts group s.now u label × Takes s.parts group s.now (attr_of_node s.parts group 0 u) label)
    ×
    ((v : ℕ) → has set v ≡ true → v ≢ u
    → IsPlace s.parts (edge_to group u label v) × Takes s.parts group s.now (edge_decision s.parts (edge_to group u label v)) 0)

-- ---- where the code stands

-- a principle use of the sentence
pub record IsReady (group : Group) (s : State) : Type 0 where
  pub known : Known s
  pub group_is : IsGroup s.parts group

-- an order
abbrev pub IsOrdering : Group → State → Type 0
IsOrdering group s = IsReady group s × (group.principle ≡ principles.Order)

-- at a node
abbrev pub IsAtNode : Group → ℕ → State → Type 0
IsAtNode group u s = IsOrdering group s × (u < nodes s.parts)

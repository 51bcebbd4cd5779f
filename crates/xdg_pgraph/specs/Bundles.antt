-- The edges with a label out of a node, or into it.
use Rattle.std.specs.Prelude.{◌≡◌, ◌<◌, ◌⊎◌, ◌↔◌, ℕ, Bool, true, IsTrue, List, [], length, Contains, slice_index_or}
use Rattle.xdg_problem.specs.declared.analysis.Edge.{Edge}
use Rattle.xdg_problem.specs.declared.parts.Group.{Group}
use Rattle.xdg_problem.specs.declared.parts.Parts.{Parts}
use Rattle.xdg_problem.specs.Arguments.{first_dim}
use Rattle.xdg_problem.specs.Boxes.{Has, entry_decision, edge_decision}
use Rattle.xdg_problem.specs.Features.{in_row, out_row}
use Rattle.xdg_problem.specs.Paths.{edges_into, edges_out_of}
use Rattle.xdg_problem.specs.Places.{edge, nodes}
use Rattle.xdg_rules.specs.Rules.{HasNoneWithin, IsGreatest, IsLeast, SaysPresent, SaysAbsent, may_edges, must_edges}
use Rattle.xdg_pgraph.specs.declared.bundle.Way.{Way}
use Rattle.xdg_pgraph.specs.declared.bundle.Way.TheVariants as ways
use Rattle.xdg_pgraph.specs.declared.bundle.Bundle.{Bundle}
use Rattle.xdg_pgraph.specs.declared.bundle.FarNodes.{FarNodes}
use Rattle.xdg_facts.specs.Rises.{has}

-- the edge with a label between a node and another
abbrev pub edge_to : Way → ℕ → ℕ → ℕ → ℕ → Edge
edge_to ways.Out dim node label other = edge dim node label other
edge_to ways.In dim node label other = edge dim other label node

-- the node of an edge whose bundle it is in
abbrev pub near_node : Way → Edge → ℕ
near_node ways.Out e = e.mother.0
near_node ways.In e = e.daughter.0

-- its other node
abbrev pub far_node : Way → Edge → ℕ
far_node ways.Out e = e.daughter.0
far_node ways.In e = e.mother.0

-- how many edges with a label leave a node, or enter it
abbrev pub count_of : Way → List Edge → ℕ → ℕ → ℕ
count_of ways.Out edges node label = edges_out_of edges node label
count_of ways.In edges node label = edges_into edges node label

-- the place of the feature that says how many there may be, among those of valency
abbrev pub argument_of : Way → ℕ
argument_of ways.Out = 1
argument_of ways.In = 0

-- how many may, by a candidate of the node
abbrev pub numbers_of : Way → Group → ℕ → ℕ → ℕ → List ℕ
numbers_of ways.Out group node label candidate = out_row group node candidate label
numbers_of ways.In group node label candidate = in_row group node candidate label

-- an edge of a bundle, among those of a list
pub record IsInBundle (way : Way) (node label : ℕ) (edges : List Edge) (e : Edge) : Type 0 where
  pub among : Contains edges e
  pub near : near_node way e ≡ node
  pub label_is : e.label.0 ≡ label

-- an edge of a bundle that may be present and need not be
pub record IsOpen (way : Way) (parts : Parts) (box : List (List Bool)) (dim node label : ℕ) (e : Edge) : Type 0 where
  pub may : IsInBundle way node label (may_edges parts box dim) e
  pub free : Contains (must_edges parts box dim) e → ⊥

-- a set has the other nodes of a bundle's edges, among those of a list
abbrev pub AreEnds : List Edge → ℕ → Way → ℕ → ℕ → List ℕ → Type 0
AreEnds edges dim way node label ends = (other : ℕ) → IsTrue (has ends other) ↔ Contains edges (edge_to way dim node label other)

-- two sets have those of the edges that may be present, and of those that must be
pub record HasFarNodes (parts : Parts) (box : List (List Bool)) (dim : ℕ) (way : Way) (node label : ℕ) (ends : FarNodes) : Type 0 where
  pub may : AreEnds (may_edges parts box dim) dim way node label ends.may
  pub must : AreEnds (must_edges parts box dim) dim way node label ends.must

-- ---- what valency takes at a bundle

-- an entry of the node: none of its numbers lies between two counts
abbrev pub Barred : Parts → Group → Bundle → ℕ → ℕ → ℕ → ℕ → Type 0
Barred parts group bundle least most d v =
    (d ≡ entry_decision bundle.node) × (v < length (slice_index_or parts.candidates bundle.node []))
    × HasNoneWithin (numbers_of bundle.way group bundle.node bundle.label v) least most

-- that an edge is present, where as many must be as the entries of the node allow at most
pub record FullAt (way : Way) (parts : Parts) (group : Group) (box : List (List Bool)) (node label d v : ℕ) : Type 0 where
  pub place : Edge
  pub is : IsOpen way parts box (first_dim group) node label place
  pub says : SaysPresent parts place d v
  pub full : IsGreatest box node (numbers_of way group node label) (count_of way (must_edges parts box (first_dim group)) node label)

-- that an edge is absent, where only as many may be as the entries of the node want at least
pub record NeededAt (way : Way) (parts : Parts) (group : Group) (box : List (List Bool)) (node label d v : ℕ) : Type 0 where
  pub place : Edge
  pub is : IsOpen way parts box (first_dim group) node label place
  pub says : SaysAbsent parts place d v
  pub needed : IsLeast box node (numbers_of way group node label) (count_of way (may_edges parts box (first_dim group)) node label)

-- either
abbrev pub EdgeAt : Way → Parts → Group → List (List Bool) → ℕ → ℕ → ℕ → ℕ → Type 0
EdgeAt way parts group box node label d v = FullAt way parts group box node label d v ⊎ NeededAt way parts group box node label d v

-- a value of the edge to one of some nodes
pub record OpenTo (parts : Parts) (dim : ℕ) (bundle : Bundle) (others : List ℕ) (value d v : ℕ) : Type 0 where
  pub other : ℕ
  pub is : has others other ≡ true
  pub decision : d ≡ edge_decision parts (edge_to bundle.way dim bundle.node bundle.label other)
  pub value_is : v ≡ value

-- ---- where nothing is left to take

-- at a bundle
pub record IsBundleDone (way : Way) (parts : Parts) (group : Group) (node label : ℕ) (box : List (List Bool)) : Type 0 where
  pub entries : (c : ℕ) → Has box (entry_decision node) c
      → HasNoneWithin (numbers_of way group node label c) (count_of way (must_edges parts box (first_dim group)) node label)
      (count_of way (may_edges parts box (first_dim group)) node label)
      → ⊥
  pub edges : (d v : ℕ) → Has box d v → EdgeAt way parts group box node label d v → ⊥

-- at the bundles with a label out of all nodes, or into them
abbrev pub IsWayDone : Way → Parts → Group → ℕ → List (List Bool) → Type 0
IsWayDone way parts group label box = (node : ℕ) → node < nodes parts → IsBundleDone way parts group node label box

-- at both
abbrev pub IsLabelDone : Parts → Group → ℕ → List (List Bool) → Type 0
IsLabelDone parts group label box = IsWayDone ways.Out parts group label box × IsWayDone ways.In parts group label box

-- at those with the first labels
abbrev pub AreLabelsDone : ℕ → Parts → Group → List (List Bool) → Type 0
AreLabelsDone k parts group box = (label : ℕ) → label < k → IsLabelDone parts group label box

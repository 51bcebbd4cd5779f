-- Edges that are to go, told by tables of nodes.
use Rattle.std.specs.Prelude.{◌≡◌, ◌⊎◌, ◌<◌, ℕ, Bool, true, List, Contains}
use Rattle.xdg_nodeset.specs.Tables.{InTable}
use Rattle.xdg_problem.specs.declared.analysis.Edge.{Edge}
use Rattle.xdg_problem.specs.declared.parts.Group.{Group}
use Rattle.xdg_problem.specs.declared.parts.Parts.{Parts}
use Rattle.xdg_problem.specs.Features.{set_row}
use Rattle.xdg_problem.specs.Places.{nodes}
use Rattle.xdg_rules.specs.Rules.{EachEntry, IsPlaceOn, SaysPresent}
use Rattle.xdg_facts.specs.Rises.{has}

-- the value that says that an edge of the dimension is present, which is to go
pub record Forbids (parts : Parts) (dim : ℕ) (Goes : Edge → Type 0) (d v : ℕ) : Type 0 where
  pub place : Edge
  pub is : IsPlaceOn parts dim place
  pub goes : Goes place
  pub says : SaysPresent parts place d v

-- an edge out of a node, to a daughter outside a set
abbrev pub From : ℕ → List ℕ → Edge → Type 0
From mother within e = (e.mother.0 ≡ mother) × (has within e.daughter.0 ≡ true → ⊥)

-- and with a label
abbrev pub Beyond : ℕ → ℕ → List ℕ → Edge → Type 0
Beyond mother label within e = (e.label.0 ≡ label) × From mother within e

-- an edge to a daughter that the table lacks for its mother
abbrev pub Leaves : List (List ℕ) → Edge → Type 0
Leaves table e = InTable table e.mother.0 e.daughter.0 → ⊥

-- an edge with a label, out of one of some nodes and to a daughter outside a set
abbrev pub Out : List ℕ → ℕ → List ℕ → Edge → Type 0
Out mothers label within e = (has mothers e.mother.0 ≡ true) × (e.label.0 ≡ label) × (has within e.daughter.0 ≡ true → ⊥)

-- a node is the mother of the edge or above it, by a table, and has not the edge's daughter below it, by another table
abbrev pub Stops : List (List ℕ) → List (List ℕ) → Edge → ℕ → Type 0
Stops over near e barrier = ((barrier ≡ e.mother.0) ⊎ InTable over barrier e.mother.0) × (InTable near barrier e.daughter.0 → ⊥)

-- an edge with a label that one of some nodes stops
abbrev pub StoppedBy : List ℕ → ℕ → List (List ℕ) → List (List ℕ) → Edge → Type 0
StoppedBy barriers label over near e = (e.label.0 ≡ label) × ((barrier : ℕ) × (has barriers barrier ≡ true) × Stops over near e barrier)

-- an edge that a node stops which blocks its label
abbrev pub IsStopped : List (List ℕ) → List (List ℕ) → List (List ℕ) → Edge → Type 0
IsStopped blocking over near e = (barrier : ℕ) × InTable blocking e.label.0 barrier × Stops over near e barrier

-- each remaining entry of a node blocks a label
abbrev pub Blocks : Group → List (List Bool) → ℕ → ℕ → Type 0
Blocks group box node label = EachEntry box node (λ c. Contains (set_row group node c) label)

-- the table leads only to nodes of the sentence
abbrev pub AreNodes : Parts → List (List ℕ) → Type 0
AreNodes parts table = (a b : ℕ) → InTable table a b → b < nodes parts

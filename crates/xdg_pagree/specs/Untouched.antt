-- Nodes and places where nothing was lost.
use Rattle.std.specs.Prelude.{◌≡◌, ◌≢◌, ◌<◌, ℕ, true, Bool, List}
use Rattle.xdg_problem.specs.declared.analysis.Edge.{Edge}
use Rattle.xdg_problem.specs.declared.parts.Group.{Group}
use Rattle.xdg_problem.specs.declared.parts.Parts.{Parts}
use Rattle.xdg_problem.specs.declared.parts.Principle.TheVariants as principles
use Rattle.xdg_problem.specs.Arguments.{first_dim}
use Rattle.xdg_problem.specs.Boxes.{May}
use Rattle.xdg_problem.specs.Places.{edge, nodes}
use Rattle.xdg_rules.specs.Rules.{IsPlaceOn}
use Rattle.xdg_nodeset.specs.Tables.{InTable}
use Rattle.xdg_propcore.specs.declared.touched.Touched.{Touched}
use Rattle.xdg_pagree.specs.Family.{IsOfPlaces}
use Rattle.xdg_pagree.specs.Places.{IsDoneAt, IsNodeDone, PlaceAsks}
use Rattle.xdg_facts.specs.Rises.{has}

-- the node has lost no entry and no value of an attribute
abbrev pub IsNodeFree : Touched → ℕ → Type 0
IsNodeFree t node = (has t.entries node ≡ true → ⊥) × (has t.attrs node ≡ true → ⊥)

-- nor a value of an edge with the label out of it
abbrev pub IsRowFree : Touched → ℕ → ℕ → Type 0
IsRowFree t mother label = IsNodeFree t mother × (InTable t.out label mother → ⊥)

-- nor has the daughter lost a value of an attribute
abbrev pub IsPlaceFree : Touched → Edge → Type 0
IsPlaceFree t e = IsRowFree t e.mother.0 e.label.0 × (has t.attrs e.daughter.0 ≡ true → ⊥)

-- ---- where to look

-- a set has nodes of the sentence, and all that have lost an entry or a value of an attribute
pub record HasOwn (parts : Parts) (t : Touched) (set : List ℕ) : Type 0 where
  pub each : (v : ℕ) → has set v ≡ true → v < nodes parts
  pub others : (v : ℕ) → v < nodes parts → (has set v ≡ true → ⊥) → IsNodeFree t v

-- a set has nodes of the sentence, and all mothers of an edge with a label to one of some daughters that may be present
pub record AreMothersOf (parts : Parts) (box : List (List Bool)) (dim label : ℕ) (daughters set : List ℕ) : Type 0 where
  pub each : (u : ℕ) → has set u ≡ true → u < nodes parts
  pub all : (e : Edge) → IsPlaceOn parts dim e → e.label.0 ≡ label → has daughters e.daughter.0 ≡ true → May parts box e → has set e.mother.0 ≡ true

-- a set has nodes of the sentence, and all mothers of an edge with a label that may be present where something was lost
pub record HasMothers (parts : Parts) (box : List (List Bool)) (t : Touched) (dim label : ℕ) (set : List ℕ) : Type 0 where
  pub each : (u : ℕ) → has set u ≡ true → u < nodes parts
  pub others : (e : Edge) → IsPlaceOn parts dim e → e.label.0 ≡ label → (has set e.mother.0 ≡ true → ⊥) → May parts box e → IsPlaceFree t e

-- a set has nodes of the sentence but the mother
abbrev pub AreNodesBeside : Parts → ℕ → List ℕ → Type 0
AreNodesBeside parts mother set = (v : ℕ) → has set v ≡ true → (v < nodes parts) × (mother ≢ v)

-- a set has daughters of edges with a label out of a mother, and all that there may be where something was lost
pub record AreTouched (parts : Parts) (box : List (List Bool)) (t : Touched) (dim mother label : ℕ) (set : List ℕ) : Type 0 where
  pub each : AreNodesBeside parts mother set
  pub others : (v : ℕ) → v < nodes parts → mother ≢ v → May parts box (edge dim mother label v) → (has set v ≡ true → ⊥)
      → IsPlaceFree t (edge dim mother label v)

-- ---- what is left

-- where nothing was lost nothing is left to take
pub record AreOthersDone (t : Touched) (parts : Parts) (group : Group) (box : List (List Bool)) : Type 0 where
  pub at_nodes : group.principle ≡ principles.Agr → (node : ℕ) → node < nodes parts → IsNodeFree t node → IsNodeDone principles.Agr parts group node box
  pub at_places : IsOfPlaces group.principle → (e : Edge) → IsPlaceOn parts (first_dim group) e → PlaceAsks group.principle group box e.mother.0 e.label.0
      → IsPlaceFree t e → IsDoneAt parts group e box

-- nothing is left to take at the places of a label from a mother to nodes outside a set
abbrev pub AreOthersDoneAt : Parts → Group → ℕ → ℕ → ℕ → List ℕ → List (List Bool) → Type 0
AreOthersDoneAt parts group dim mother label set box =
    (v : ℕ) → v < nodes parts → mother ≢ v → (has set v ≡ true → ⊥) → IsDoneAt parts group (edge dim mother label v) box

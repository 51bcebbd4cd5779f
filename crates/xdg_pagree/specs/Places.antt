-- What the rules of agr, agreement and government take, place by place and node by node.
use Rattle.std.specs.Prelude.{◌≡◌, ℕ, ◌<◌, ◌⊎◌, Bool, List, length, Contains}
use Rattle.xdg_problem.specs.declared.analysis.Edge.{Edge}
use Rattle.xdg_problem.specs.declared.parts.Group.{Group}
use Rattle.xdg_problem.specs.declared.parts.Parts.{Parts}
use Rattle.xdg_problem.specs.declared.parts.Principle.{Principle}
use Rattle.xdg_problem.specs.declared.parts.Principle.TheVariants as principles
use Rattle.xdg_problem.specs.Arguments.{first_dim}
use Rattle.xdg_problem.specs.Boxes.{Has, entry_decision}
use Rattle.xdg_problem.specs.Features.{set_row, map_row}
use Rattle.xdg_problem.specs.Places.{nodes}
use Rattle.xdg_rules.specs.Rules.{EachEntry, IsPlaceOn, SaysPresent, must_edges, attr_of_node}

-- the entries of a mother ask for something at a label: for agreement, or for one of some values
abbrev pub PlaceAsks : Principle → Group → List (List Bool) → ℕ → ℕ → Type 0
PlaceAsks principles.Agreement group box mother label = EachEntry box mother (λ c. Contains (set_row group mother c) label)
PlaceAsks principles.Government group box mother label = EachEntry box mother (λ c. 0 < length (map_row group mother c label))
PlaceAsks principle group box mother label = ⊥

-- where it is asked for, the value v of the decision d can't be
abbrev pub PlaceLacks : Principle → Parts → Group → List (List Bool) → Edge → ℕ → ℕ → Type 0
PlaceLacks principles.Agreement parts group box place d v =
    (SaysPresent parts place d v
    × ((x : ℕ) → Has box (attr_of_node parts group 0 place.mother.0) x → Has box (attr_of_node parts group 1 place.daughter.0) x → ⊥))
    ⊎ (Contains (must_edges parts box (first_dim group)) place
    × (((d ≡ attr_of_node parts group 0 place.mother.0) × (Has box (attr_of_node parts group 1 place.daughter.0) v → ⊥))
    ⊎ ((d ≡ attr_of_node parts group 1 place.daughter.0) × (Has box (attr_of_node parts group 0 place.mother.0) v → ⊥))))
PlaceLacks principles.Government parts group box place d v =
    (SaysPresent parts place d v
    × EachEntry box place.mother.0
    (λ c. (x : ℕ) → Has box (attr_of_node parts group 0 place.daughter.0) x → Contains (map_row group place.mother.0 c place.label.0) x → ⊥))
    ⊎ (Contains (must_edges parts box (first_dim group)) place
    × (d ≡ attr_of_node parts group 0 place.daughter.0)
    × EachEntry box place.mother.0 (λ c. Contains (map_row group place.mother.0 c place.label.0) v → ⊥))
PlaceLacks principle parts group box place d v = ⊥

-- ---- values that lack what they need

-- a value that another decision lacks
abbrev pub LacksOther : ℕ → List (List Bool) → ℕ → Type 0
LacksOther e box v = Has box e v → ⊥

-- a value that is in the set of no remaining entry of a node at a label
abbrev pub LacksEntry : Group → ℕ → ℕ → List (List Bool) → ℕ → Type 0
LacksEntry group node label box v = EachEntry box node (λ c. Contains (map_row group node c label) v → ⊥)

-- an entry of a node in whose set no value of a decision remains
abbrev pub LacksValue : Group → ℕ → ℕ → List (List Bool) → ℕ → Type 0
LacksValue group node e box c = (x : ℕ) → Has box e x → Contains (set_row group node c) x → ⊥

-- no value of a decision that remains lacks what it needs
abbrev pub NoneLacks : ℕ → (List (List Bool) → ℕ → Type 0) → List (List Bool) → Type 0
NoneLacks d Lacks box = (v : ℕ) → Has box d v → Lacks box v → ⊥

-- none of the first ones
abbrev pub NoneBelow : ℕ → ℕ → (List (List Bool) → ℕ → Type 0) → List (List Bool) → Type 0
NoneBelow k d Lacks box = (v : ℕ) → v < k → Has box d v → Lacks box v → ⊥

-- ---- places and nodes at which nothing is left to take

-- nothing at an edge place
abbrev pub IsDoneAt : Parts → Group → Edge → List (List Bool) → Type 0
IsDoneAt parts group place box = (d v : ℕ) → Has box d v → PlaceLacks group.principle parts group box place d v → ⊥

-- nothing at the places of a label out of a mother
abbrev pub IsLabelDone : Parts → Group → ℕ → ℕ → List (List Bool) → Type 0
IsLabelDone parts group mother label box =
    (place : Edge) → IsPlaceOn parts (first_dim group) place → place.mother.0 ≡ mother → place.label.0 ≡ label → IsDoneAt parts group place box

-- nothing at the places of a label out of the nodes of the sentence, where it is asked for
abbrev pub AreMothersDone : Parts → Group → ℕ → List (List Bool) → Type 0
AreMothersDone parts group label box =
    (mother : ℕ) → mother < nodes parts → PlaceAsks group.principle group box mother label → IsLabelDone parts group mother label box

-- nothing at those of the first labels
abbrev pub AreLabelsDone : ℕ → Parts → Group → List (List Bool) → Type 0
AreLabelsDone k parts group box = (label : ℕ) → label < k → AreMothersDone parts group label box

-- nothing at a node
abbrev pub IsNodeDone : Principle → Parts → Group → ℕ → List (List Bool) → Type 0
IsNodeDone principles.Agr parts group node box =
    NoneLacks (attr_of_node parts group 0 node) (LacksEntry group node 0) box
    × NoneLacks (entry_decision node) (LacksValue group node (attr_of_node parts group 0 node)) box
IsNodeDone principle parts group node box =
    (label : ℕ) → PlaceAsks group.principle group box node label → IsLabelDone parts group node label box

-- nothing at the first nodes
abbrev pub AreNodesDone : ℕ → Parts → Group → List (List Bool) → Type 0
AreNodesDone k parts group box = (node : ℕ) → node < k → IsNodeDone group.principle parts group node box

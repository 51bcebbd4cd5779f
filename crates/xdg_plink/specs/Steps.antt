-- What a part of a step does for a linking principle, and where the code stands in it.
use Rattle.std.specs.Prelude.{◌≡◌, ℕ, ◌<◌, Bool, List, length, Contains, Option, None, Some}
use Rattle.xdg_problem.specs.declared.analysis.Edge.{Edge}
use Rattle.xdg_problem.specs.declared.parts.Group.{Group}
use Rattle.xdg_problem.specs.declared.parts.Linking.{Linking}
use Rattle.xdg_problem.specs.declared.parts.Parts.{Parts}
use Rattle.xdg_problem.specs.declared.parts.Principle.{Principle}
use Rattle.xdg_problem.specs.declared.parts.Principle.TheVariants as principles
use Rattle.xdg_problem.specs.Analyses.{IsPlace}
use Rattle.xdg_problem.specs.Arguments.{first_dim, second_dim}
use Rattle.xdg_problem.specs.Boxes.{Has, May, Must}
use Rattle.xdg_problem.specs.Places.{edge, nodes}
use Rattle.xdg_problem.specs.Features.{map_row, set_row}
use Rattle.xdg_problem.specs.Principles.{linking_of}
use Rattle.xdg_problem.specs.Problems.{IsGroup}
use Rattle.xdg_rules.specs.Rules.{EachEntry, IsPlaceOn, LinkingNotDaughter, LinkingReach, SaysPresent, may_edges, must_edges}
use Rattle.xdg_store.specs.States.{State, Known}
use Rattle.xdg_plink.specs.Family.{IsLinking, Reaches}
use Rattle.xdg_graph.specs.Edges.{edge_labels}
use Rattle.xdg_plink.specs.Ways.{Covers, IsLed, Keeps, way_of}

-- what the rule of a principle that links in a way takes at a place of the first dimension
abbrev pub TakesLinkAt : Option Linking → Parts → Group → List (List Bool) → Edge → ℕ → ℕ → Type 0
TakesLinkAt None parts group box place d v = ⊥
TakesLinkAt (Some way) parts group box place d v = (rule : LinkingReach parts group box way d v) × (rule.place ≡ place)

-- what the rule of any takes there
abbrev pub TakesAt : Principle → Parts → Group → List (List Bool) → Edge → ℕ → ℕ → Type 0
TakesAt principles.LinkingNotDaughter parts group box place d v = (rule : LinkingNotDaughter parts group box d v) × (rule.place ≡ place)
TakesAt principle parts group box place d v = TakesLinkAt (linking_of principle) parts group box place d v

-- it takes nothing there that remains
abbrev pub IsDoneAt : Parts → Group → Edge → List (List Bool) → Type 0
IsDoneAt parts group place box = (d v : ℕ) → Has box d v → TakesAt group.principle parts group box place d v → ⊥

-- the table has no more than the box allows
abbrev pub IsExact : Parts → Group → List (List ℕ) → List (List Bool) → Type 0
IsExact parts group table box = Keeps (way_of group.principle) (may_edges parts box (second_dim group)) table

-- the entries of a node ask for something at a label: that edges are kept apart, or for a link
abbrev pub Asks : Principle → Group → List (List Bool) → ℕ → ℕ → Type 0
Asks principles.LinkingNotDaughter group box u label = EachEntry box u (λ c. Contains (set_row group u c) label)
Asks principle group box u label = EachEntry box u (λ c. 0 < length (map_row group u c label))

-- by the table, the edge is to go, if the entries of its mother ask for a link
abbrev pub IsCut : Parts → Group → List (List ℕ) → List (List Bool) → Edge → Type 0
IsCut parts group table box place =
    May parts box place
    × EachEntry box place.mother.0
    (λ c. IsLed (way_of group.principle) (may_edges parts box (second_dim group)) table (map_row group place.mother.0 c place.label.0)
    place.mother.0 place.daughter.0
    → ⊥)

-- nothing is done at a place, if the table is exact
abbrev pub DoneAt : Parts → Group → List (List ℕ) → Edge → List (List Bool) → Type 0
DoneAt parts group table place box = IsExact parts group table box → IsDoneAt parts group place box

-- nothing at the places of a label from u, if the table is exact
abbrev pub IsLabelDone : Parts → Group → List (List ℕ) → ℕ → ℕ → List (List Bool) → Type 0
IsLabelDone parts group table u label box =
    IsExact parts group table box → (e : Edge) → IsPlaceOn parts (first_dim group) e → e.mother.0 ≡ u → e.label.0 ≡ label → IsDoneAt parts group e box

-- nothing at the places of the first labels from u
abbrev pub AreLabelsDone : Parts → Group → List (List ℕ) → ℕ → ℕ → List (List Bool) → Type 0
AreLabelsDone parts group table u k box = (label : ℕ) → label < k → IsLabelDone parts group table u label box

-- nothing at the places from the first nodes
abbrev pub AreMothersDone : Parts → Group → List (List ℕ) → ℕ → List (List Bool) → Type 0
AreMothersDone parts group table k box = (u : ℕ) → u < k → AreLabelsDone parts group table u (edge_labels parts (first_dim group)) box

-- the store can be searched for a linking principle: the table has at least what the box allows
pub record IsReady (group : Group) (table : List (List ℕ)) (s : State) : Type 0 where
  pub known : Known s
  pub group_is : IsGroup s.parts group
  pub linking : IsLinking group.principle
  pub covers : Covers (way_of group.principle) (may_edges s.parts s.now (second_dim group)) table

-- an edge with one of the first labels must lead from u to v
abbrev pub MustJoin : Parts → List (List Bool) → ℕ → ℕ → ℕ → ℕ → Type 0
MustJoin parts box dim u v k = (label : ℕ) × (label < k) × Must parts box (edge dim u label v)

-- the rule takes nothing that remains of what keeps two edges apart: neither the one of the first dimension
abbrev pub IsFirstDone : Parts → Group → Edge → List (List Bool) → Type 0
IsFirstDone parts group place box =
    (d v : ℕ) → Has box d v → (rule : LinkingNotDaughter parts group box d v) → rule.place ≡ place → SaysPresent parts rule.place d v
    → Contains (must_edges parts box (second_dim group)) rule.other → ⊥

-- nor the one of the second
abbrev pub IsSecondDone : Parts → Group → Edge → List (List Bool) → Type 0
IsSecondDone parts group place box =
    (d v : ℕ) → Has box d v → (rule : LinkingNotDaughter parts group box d v) → rule.place ≡ place → SaysPresent parts rule.other d v → ⊥

-- ---- where the code stands

-- at a node of the sentence
abbrev pub IsAtNode : Group → List (List ℕ) → ℕ → State → Type 0
IsAtNode group table u s = IsReady group table s × (u < nodes s.parts)

-- at a label of a node
abbrev pub IsAtLabel : Group → List (List ℕ) → ℕ → ℕ → State → Type 0
IsAtLabel group table u label s = IsAtNode group table u s × (label < edge_labels s.parts (first_dim group))

-- at an edge place of the first dimension
pub record IsOnPlace (group : Group) (place : Edge) (s : State) : Type 0 where
  pub known : Known s
  pub group_is : IsGroup s.parts group
  pub place_is : IsPlace s.parts place
  pub on : place.dim.0 ≡ first_dim group

-- for a principle that asks for edges, where the entries ask for a link
abbrev pub CanCut : Group → List (List ℕ) → Edge → State → Type 0
CanCut group table place s =
    IsOnPlace group place s × IsReady group table s × Reaches group.principle × Asks group.principle group s.now place.mother.0 place.label.0

-- for one that keeps edges apart
abbrev pub CanPart : Group → Edge → State → Type 0
CanPart group place s = IsOnPlace group place s × (group.principle ≡ principles.LinkingNotDaughter)

-- whose entries ask for it
abbrev pub AsksApart : Group → Edge → List (List Bool) → Type 0
AsksApart group place box = EachEntry box place.mother.0 (λ c. Contains (set_row group place.mother.0 c) place.label.0)

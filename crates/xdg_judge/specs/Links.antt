-- The edges of a dimension as sets of nodes.
use Rattle.std.specs.Prelude.{◌≡◌, ℕ, ◌↔◌, List}
use Rattle.std.specs.List.{Any}
use Rattle.xdg_problem.specs.declared.analysis.Edge.{Edge}
use Rattle.xdg_problem.specs.Paths.{Above}
use Rattle.xdg_judge.specs.declared.links.Direction.{Direction}
use Rattle.xdg_judge.specs.declared.links.Direction.TheVariants as directions
use Rattle.xdg_judge.specs.declared.links.Links.{Links}
use Rattle.xdg_judge.specs.declared.links.Neighbours.{Neighbours}
use Rattle.xdg_nodeset.specs.Tables.{InTable, InBy}

-- an edge leads from a node to another in a direction
abbrev pub Leads : Direction → ℕ → ℕ → Edge → Type 0
Leads directions.Down from to e = (e.mother.0 ≡ from) × (e.daughter.0 ≡ to)
Leads directions.Up from to e = (e.daughter.0 ≡ from) × (e.mother.0 ≡ to)

-- an edge with a label leads from a node to another in a direction
abbrev pub LeadsBy : Direction → ℕ → ℕ → ℕ → Edge → Type 0
LeadsBy directions.Down from label to e = (e.mother.0 ≡ from) × (e.label.0 ≡ label) × (e.daughter.0 ≡ to)
LeadsBy directions.Up from label to e = (e.daughter.0 ≡ from) × (e.label.0 ≡ label) × (e.mother.0 ≡ to)

-- a path leads from a node to another in a direction
abbrev pub LeadsFar : Direction → List Edge → ℕ → ℕ → Type 0
LeadsFar directions.Down edges from to = Above edges from to
LeadsFar directions.Up edges from to = Above edges to from

-- the sets are those of the nodes that edges and paths lead to in a direction
pub record AreNeighbours (direction : Direction) (edges : List Edge) (sets : Neighbours) : Type 0 where
  pub by_label : (from label to : ℕ) → InBy sets.by_label from label to ↔ Any (LeadsBy direction from label to) edges
  pub next : (from to : ℕ) → InTable sets.next from to ↔ Any (Leads direction from to) edges
  pub far : (from to : ℕ) → InTable sets.far from to ↔ LeadsFar direction edges from to

-- the sets of both directions
pub record AreLinks (edges : List Edge) (links : Links) : Type 0 where
  pub down : AreNeighbours directions.Down edges links.down
  pub up : AreNeighbours directions.Up edges links.up

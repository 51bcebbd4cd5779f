-- The edges of a box, and what is known of tables and rows of them.
use Rattle.std.specs.Prelude.{◌≡◌, ℕ, ◌≤◌, ◌<◌, Bool, true, List, cond, length, slice_index_or}
use Rattle.xdg_facts.specs.Rises.{has}
use Rattle.xdg_nodeset.specs.Tables.{InTable}
use Rattle.xdg_problem.specs.declared.analysis.Edge.{Edge}
use Rattle.xdg_problem.specs.declared.parts.DimPlan.{DimPlan}
use Rattle.xdg_problem.specs.declared.parts.Parts.{Parts}
use Rattle.xdg_problem.specs.Arguments.{no_plan}
use Rattle.xdg_problem.specs.Boxes.{May, Must}
use Rattle.xdg_rules.specs.Rules.{may_edges, must_edges}
use Rattle.xdg_store.specs.Across.{no_mothers}
use Rattle.xdg_store.specs.declared.across.Mothers.{Mothers}
use Rattle.xdg_graph.specs.declared.which.Which.{Which}
use Rattle.xdg_graph.specs.declared.which.Which.TheVariants as whichs

-- the edges of a dimension that may be, or that must be
abbrev pub edges_of : Which → Parts → List (List Bool) → ℕ → List Edge
edges_of whichs.May = may_edges
edges_of whichs.Must = must_edges

-- an edge may be, or must be
abbrev pub Stands : Which → Parts → List (List Bool) → Edge → Type 0
Stands whichs.May = May
Stands whichs.Must = Must

-- the sets of a table are empty from a place on
abbrev pub HasNoneFrom : ℕ → List (List ℕ) → Type 0
HasNoneFrom size table = (a b : ℕ) → size ≤ a → InTable table a b → ⊥

-- a table without nodes
abbrev pub IsBlank : List (List ℕ) → Type 0
IsBlank table = (a b : ℕ) → InTable table a b → ⊥

-- how many labels the edges of a dimension can have: none where it has no edges
abbrev pub plan_labels : DimPlan → ℕ
plan_labels plan = cond plan.graph (length plan.labels) 0

abbrev pub edge_labels : Parts → ℕ → ℕ
edge_labels parts dim = plan_labels (slice_index_or parts.dims dim no_plan)

-- what a row of mothers has of the edges that may be, or of those that must be
abbrev pub mothers_in : Which → Mothers → List ℕ
mothers_in whichs.May row = row.may
mothers_in whichs.Must row = row.must

-- one of some rows has a node
abbrev pub InSome : Which → List Mothers → ℕ → Type 0
InSome which rows x = (label : ℕ) × (label < length rows) × (has (mothers_in which (slice_index_or rows label no_mothers)) x ≡ true)

-- each node that a set of a table has is among some
abbrev pub IsLedTo : List (List ℕ) → List ℕ → Type 0
IsLedTo table ends = (a b : ℕ) → InTable table a b → has ends b ≡ true

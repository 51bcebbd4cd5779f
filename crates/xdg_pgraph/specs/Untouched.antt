-- Bundles of which nothing was lost.
use Rattle.std.specs.Prelude.{◌≡◌, ◌<◌, ◌⊎◌, ℕ, Bool, true, List}
use Rattle.xdg_problem.specs.declared.parts.Group.{Group}
use Rattle.xdg_problem.specs.declared.parts.Parts.{Parts}
use Rattle.xdg_problem.specs.Arguments.{first_dim, label_count}
use Rattle.xdg_problem.specs.Places.{nodes}
use Rattle.xdg_nodeset.specs.Tables.{InTable}
use Rattle.xdg_propcore.specs.declared.touched.Touched.{Touched}
use Rattle.xdg_pgraph.specs.Bundles.{IsBundleDone}
use Rattle.xdg_pgraph.specs.declared.bundle.Way.{Way}
use Rattle.xdg_pgraph.specs.declared.bundle.Way.TheVariants as ways
use Rattle.xdg_facts.specs.Rises.{has}

-- the nodes that have lost values of edges out of them, or into them, by their labels
abbrev pub side : Way → Touched → List (List ℕ)
side ways.Out t = t.out
side ways.In t = t.into

-- an entry of the node or a value of an edge of the bundle was lost
abbrev pub IsTouched : Way → Touched → ℕ → ℕ → Type 0
IsTouched way t node label = (has t.entries node ≡ true) ⊎ InTable (side way t) label node

-- at each bundle of which nothing was lost nothing is left to take
abbrev pub AreOthersDone : Touched → Parts → Group → List (List Bool) → Type 0
AreOthersDone t parts group box =
    (way : Way) (node label : ℕ) → node < nodes parts → label < label_count parts (first_dim group) → (IsTouched way t node label → ⊥)
    → IsBundleDone way parts group node label box

-- What holds of two nodes in a box.
use Rattle.std.specs.Prelude.{◌≡◌, ℕ, ◌<◌, Bool, true, false, List, length, Contains}
use Rattle.xdg_problem.specs.declared.parts.Parts.{Parts}
use Rattle.xdg_problem.specs.Arguments.{label_count}
use Rattle.xdg_problem.specs.Paths.{Above}
use Rattle.xdg_problem.specs.Places.{edge}
use Rattle.xdg_graph.specs.declared.which.Which.{Which}
use Rattle.xdg_graph.specs.declared.which.Which.TheVariants as whichs
use Rattle.xdg_graph.specs.Edges.{edges_of}
use Rattle.xdg_formula_value.specs.declared.pair.Pair.{Pair}
use Rattle.xdg_formula_value.specs.declared.pair.Pair.TheVariants as pairs
use Rattle.xdg_formula_value.specs.declared.way.Way.{Way}
use Rattle.xdg_formula_value.specs.declared.way.Way.TheVariants as ways

-- by the edges that may be, or by those that must be, a node is related to another
abbrev pub Relates : Pair → Which → Parts → List (List Bool) → ℕ → ℕ → Type 0
Relates (pairs.Edge dim label) which parts box u v = Contains (edges_of which parts box dim.0) (edge dim.0 u label.0 v)
Relates (pairs.Path dim) which parts box u v = Above (edges_of which parts box dim.0) u v
Relates pairs.Left which parts box u v = u < v
Relates pairs.Same which parts box u v = u ≡ v

-- the dimension and the label are there
abbrev pub IsPairOf : Parts → Pair → Type 0
IsPairOf parts (pairs.Edge dim label) = (dim.0 < length parts.dims) × (label.0 < label_count parts dim.0)
IsPairOf parts (pairs.Path dim) = dim.0 < length parts.dims
IsPairOf parts pairs.Left = Unit {0}
IsPairOf parts pairs.Same = Unit {0}

-- from the first node to the second, or from the second to the first
abbrev pub Along : Way → (ℕ → ℕ → Type 0) → ℕ → ℕ → Type 0
Along ways.Down R u v = R u v
Along ways.Up R u v = R v u

-- the edges that make something true, or that leave it possible
abbrev pub edges_for : Bool → Which
edges_for true = whichs.Must
edges_for false = whichs.May

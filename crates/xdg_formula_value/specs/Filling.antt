-- Tables of paths, dimension by dimension.
use Rattle.std.specs.Prelude.{◌≡◌, ◌↔◌, ℕ, ◌<◌, ◌≤◌, Bool, true, false, List, [], IfSome, slice_index_or}
use Rattle.xdg_nodeset.specs.Tables.{InTable}
use Rattle.xdg_problem.specs.Paths.{Above}
use Rattle.xdg_problem.specs.Places.{nodes}
use Rattle.xdg_graph.specs.declared.which.Which.{Which}
use Rattle.xdg_graph.specs.declared.which.Which.TheVariants as whichs
use Rattle.xdg_graph.specs.Edges.{edges_of}
use Rattle.xdg_store.specs.States.{State}
use Rattle.xdg_formula_value.specs.Pairs.{Along}
use Rattle.xdg_graph.specs.Every.{IsEvery}
use Rattle.xdg_formula_value.specs.declared.paths.Filled.{Filled}
use Rattle.xdg_formula_value.specs.declared.paths.Paths.{Paths}
use Rattle.xdg_formula_value.specs.declared.way.Way.{Way}
use Rattle.xdg_formula_value.specs.declared.way.Way.TheVariants as ways

-- of the first dimensions, the table of each that is known has for each node the nodes to which paths lead
abbrev pub TellsPaths : Way → Which → State → ℕ → List Bool → List (List (List ℕ)) → Type 0
TellsPaths way which s k known tables =
    (dim : ℕ) → dim < k → slice_index_or known dim false ≡ true → (a b : ℕ)
    → InTable (slice_index_or tables dim []) a b ↔ Along way (Above (edges_of which s.parts s.now dim)) a b

-- the tables of both kinds of edges do
pub record AreFilled (way : Way) (s : State) (filled : Filled) : Type 0 where
  pub may : TellsPaths way whichs.May s 8 filled.known filled.may
  pub must : TellsPaths way whichs.Must s 8 filled.known filled.must

-- the nodes are those of the sentence, at most 128, and the tables that there are are filled
pub record ArePaths (s : State) (paths : Paths) : Type 0 where
  pub few : nodes s.parts ≤ 128
  pub all : IsEvery (nodes s.parts) paths.all
  pub below : IfSome paths.below (λ it. AreFilled ways.Down s it.now)
  pub above : IfSome paths.above (λ it. AreFilled ways.Up s it.now)

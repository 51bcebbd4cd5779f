-- What formulas are judged on, as the code keeps it: tables of neighbours.
use Rattle.std.specs.Prelude.{ℕ, ◌<◌, List, length, slice_index_or}
use Rattle.xdg_problem.specs.declared.analysis.Analysis.{Analysis}
use Rattle.xdg_problem.specs.declared.parts.Parts.{Parts}
use Rattle.xdg_problem.specs.Analyses.{IsAnalysis}
use Rattle.xdg_problem.specs.Paths.{edges_on}
use Rattle.xdg_problem.specs.Problems.{IsProblem}
use Rattle.xdg_judge.specs.declared.links.Direction.TheVariants as directions
use Rattle.xdg_judge.specs.declared.links.Neighbours.{Neighbours}
use Rattle.xdg_judge.specs.Links.{AreNeighbours}

-- the tables of the first dimensions lead down along their edges
abbrev pub AreGraphs : ℕ → Analysis → List Neighbours → Type 0
AreGraphs count analysis tables =
    (dim : ℕ) (given : Neighbours) → dim < count → AreNeighbours directions.Down (edges_on dim analysis.edges) (slice_index_or tables dim given)

-- an analysis of a problem, with a table for each of its dimensions
pub record IsReady (parts : Parts) (analysis : Analysis) (tables : List Neighbours) : Type 0 where
  pub problem : IsProblem parts
  pub fits : IsAnalysis parts analysis
  pub graphs : AreGraphs (length parts.dims) analysis tables

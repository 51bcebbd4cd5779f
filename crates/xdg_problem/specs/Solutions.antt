-- Solutions, and the one list of them.
use Rattle.std.specs.Prelude.{◌≡◌, ℕ, List, [], ◌∷◌, All, Contains}
use Rattle.xdg_facts.specs.Order.{Less}
use Rattle.xdg_problem.specs.declared.analysis.Analysis.{Analysis}
use Rattle.xdg_problem.specs.declared.parts.Parts.{Parts}
use Rattle.xdg_problem.specs.Vectors.{vector}
use Rattle.xdg_problem.specs.Analyses.{IsAnalysis}
use Rattle.xdg_problem.specs.Relations.{Relation}

-- an analysis that satisfies every principle use
pub record IsSolution (parts : Parts) (analysis : Analysis) : Type 0 where
  pub fits : IsAnalysis parts analysis
  pub each : All (λ group. Relation parts group analysis) parts.groups

-- each analysis comes before the next, and the first after the start; the start is a vector, or [] for none
abbrev pub SolutionsRise : Parts → List ℕ → List Analysis → Type 0
SolutionsRise parts after [] = Unit {0}
SolutionsRise parts after (analysis ∷ more) = Less after (vector parts analysis) × SolutionsRise parts (vector parts analysis) more

-- the list of all solutions after a start, in rising order
pub record IsSolutionList (parts : Parts) (after : List ℕ) (list : List Analysis) : Type 0 where
  pub rises : SolutionsRise parts after list
  pub each : All (IsSolution parts) list
  pub all : (analysis : Analysis) → IsSolution parts analysis → Less after (vector parts analysis) → Contains list analysis

-- there is a list of the solutions after a start, and no other
pub record HasOneSolutionList (parts : Parts) (after : List ℕ) : Type 0 where
  pub list : List Analysis
  pub is : IsSolutionList parts after list
  pub only : (other : List Analysis) → IsSolutionList parts after other → other ≡ list

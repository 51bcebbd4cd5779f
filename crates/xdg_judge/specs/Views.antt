-- What a judge works on.
use Rattle.std.specs.Prelude.{◌≡◌, ℕ, ◌≤◌, length}
use Rattle.xdg_problem.specs.declared.analysis.Analysis.{Analysis}
use Rattle.xdg_problem.specs.declared.parts.Group.{Group}
use Rattle.xdg_problem.specs.declared.parts.Parts.{Parts}
use Rattle.xdg_problem.specs.Analyses.{IsAnalysis}
use Rattle.xdg_problem.specs.Arguments.{first_dim, second_dim}
use Rattle.xdg_problem.specs.Paths.{edges_on}
use Rattle.xdg_problem.specs.Places.{nodes}
use Rattle.xdg_problem.specs.Problems.{IsProblem}
use Rattle.xdg_judge.specs.declared.links.Links.{Links}
use Rattle.xdg_judge.specs.Links.{AreLinks}
use Rattle.xdg_judge.specs.Reached.{AreWithin}

-- a principle use and an analysis of a problem, with its first two dimensions and their edges as sets
pub record IsView (parts : Parts) (group : Group) (analysis : Analysis) (dim other : ℕ) (first second : Links) : Type 0 where
  pub problem : IsProblem parts
  pub fits : IsAnalysis parts analysis
  pub few : nodes parts ≤ 128
  pub candidates : length parts.candidates ≡ nodes parts
  pub entries : length analysis.entries ≡ nodes parts
  pub within : AreWithin 128 analysis.edges
  pub first_is : dim ≡ first_dim group
  pub second_is : other ≡ second_dim group
  pub first_links : AreLinks (edges_on (first_dim group) analysis.edges) first
  pub second_links : AreLinks (edges_on (second_dim group) analysis.edges) second

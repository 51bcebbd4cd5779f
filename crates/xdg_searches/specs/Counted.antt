-- What a search finds, counted and judged.
use Rattle.std.specs.Prelude.{◌≡◌, ℕ, List, [], None, take, map}
use Rattle.std.specs.List.{AllZip}
use Rattle.xdg_searches.specs.Broken.{count_broken}
use Rattle.xdg_searches.specs.declared.counting.Counts.{Counts}
use Rattle.xdg_judge.specs.declared.verdict.Verdict.{Verdict}
use Rattle.xdg_judge.specs.Verdicts.{AreVerdicts}
use Rattle.xdg_facts.specs.Endings.{IsEnding}
use Rattle.xdg_facts.specs.Listing.{IsListing}
use Rattle.xdg_problem.specs.declared.analysis.Analysis.{Analysis}
use Rattle.xdg_problem.specs.declared.parts.Parts.{Parts}
use Rattle.xdg_problem.specs.Solutions.{IsSolutionList}
use Rattle.xdg_problem.specs.Vectors.{shape, vector}
use Rattle.xdg_rules.specs.Boxed.{Boxed}

-- the verdicts on each of some analyses
abbrev pub AreJudged : Parts → List Analysis → List (List Verdict) → Type 0
AreJudged parts analyses judged = AllZip (λ analysis given. AreVerdicts parts analysis parts.groups given) analyses judged

-- What a search with a budget, in which no number of analyses is wanted, comes to: over the one list of the boxed prefixes and the
-- one list of the solutions, how many of these it finds, on how many of them a verdict is broken, and how it ends.
pub record AreCounts (budget : ℕ) (parts : Parts) (counts : Counts) : Type 0 where
  pub counted : List (List ℕ)
  pub counted_are : IsListing (shape parts) (Boxed parts) [] counted
  pub solutions : List Analysis
  pub solutions_are : IsSolutionList parts [] solutions
  pub end : IsEnding counts.ending (shape parts) budget None counted (map (vector parts) solutions) counts.analyses
  pub judged : List (List Verdict)
  pub judged_are : AreJudged parts (take counts.analyses solutions) judged
  pub broken_is : counts.broken ≡ count_broken judged

-- a search comes to one thing
abbrev pub IsOneCount : ℕ → Parts → Type 0
IsOneCount budget parts = (one other : Counts) → AreCounts budget parts one → AreCounts budget parts other → one ≡ other

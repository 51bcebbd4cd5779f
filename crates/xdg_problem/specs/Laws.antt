-- What tests, live prefixes and solutions keep.
use Rattle.std.specs.Prelude.{◌≡◌, ◌⊎◌, ◌↔◌, ℕ, ◌<◌, List, ◌++◌, length, map, filter, All}
use Rattle.xdg_facts.specs.Closed.{Closed}
use Rattle.xdg_facts.specs.Fits.{Fits}
use Rattle.xdg_facts.specs.Listing.{HasOneListing, IsListing}
use Rattle.xdg_facts.specs.Whole.{Whole, is_whole}
use Rattle.xdg_problem.specs.declared.analysis.Analysis.{Analysis}
use Rattle.xdg_problem.specs.declared.conditions.Condition.{Condition}
use Rattle.xdg_problem.specs.declared.parts.Group.{Group}
use Rattle.xdg_problem.specs.declared.parts.Parts.{Parts}
use Rattle.xdg_problem.specs.Analyses.{IsAnalysis}
use Rattle.xdg_problem.specs.Live.{Holds, Live}
use Rattle.xdg_problem.specs.Relations.{Relation, IsKeptWhole, IsFirstBroken}
use Rattle.xdg_problem.specs.Solutions.{IsSolution, IsSolutionList, HasOneSolutionList}
use Rattle.xdg_problem.specs.Tests.{Test, IsTest}
use Rattle.xdg_problem.specs.Vectors.{shape, vector, analysis_of}

-- each test of the principle use holds of the decisions of an analysis, and what it asks of all of them together
pub record AllTestsHold (parts : Parts) (group : Group) (analysis : Analysis) : Type 0 where
  pub tests : (test : Test) → IsTest parts group test → Holds parts group test (vector parts analysis)
  pub whole : IsKeptWhole parts group analysis

-- on a whole analysis all tests of the principle use together are its relation
abbrev pub TestsAreRelation : Parts → Group → Type 0
TestsAreRelation parts group =
    (analysis : Analysis) → IsAnalysis parts analysis → AllTestsHold parts group analysis ↔ Relation parts group analysis

-- what live prefixes keep
pub record LiveLaws (parts : Parts) : Type 0 where
  pub tests : All (TestsAreRelation parts) parts.groups
  -- each front of a live prefix is live
  pub fronts : Closed (Live parts)
  -- a whole vector is live exactly where its analysis is a solution
  pub whole :
      (numbers : List ℕ) → Fits (shape parts) numbers → length numbers ≡ length (shape parts)
      → Live parts numbers ↔ IsSolution parts (analysis_of parts numbers)
  -- each prefix of the vector of a solution is live
  pub solutions :
      (analysis : Analysis) → IsSolution parts analysis → (prefix more : List ℕ) → 0 < length prefix → prefix ++ more ≡ vector parts analysis
      → Live parts prefix
  -- from any start on they have one list
  pub listed : (start : List ℕ) → HasOneListing (shape parts) (Live parts) start

-- what the list of the solutions after a start keeps
pub record SolutionLaws (parts : Parts) (start : List ℕ) : Type 0 where
  pub one : HasOneSolutionList parts start
  -- the whole ones in the list of the live prefixes are the vectors of the solutions, in order
  pub live :
      (prefixes : List (List ℕ)) → IsListing (shape parts) (Live parts) start prefixes
      → IsSolutionList parts start (map (analysis_of parts) (filter (is_whole (shape parts)) prefixes))
  -- the analyses in the list of the whole live vectors are the solutions, in order
  pub analyses :
      (vectors : List (List ℕ)) → IsListing (shape parts) (Whole (shape parts) (Live parts)) start vectors
      → IsSolutionList parts start (map (analysis_of parts) vectors)
  -- and the vectors in the list of the solutions are the whole live ones
  pub vectors :
      (list : List Analysis) → IsSolutionList parts start list
      → IsListing (shape parts) (Whole (shape parts) (Live parts)) start (map (vector parts) list)

-- an analysis has one verdict on a principle use: its relation holds, or one condition and one tuple are the first that break it
pub record HasOneVerdict (parts : Parts) (group : Group) (analysis : Analysis) : Type 0 where
  pub some : Relation parts group analysis ⊎ ((condition : Condition) × (tuple : List ℕ) × IsFirstBroken parts group analysis condition tuple)
  pub broken : (condition : Condition) (tuple : List ℕ) → IsFirstBroken parts group analysis condition tuple → Relation parts group analysis → ⊥
  pub only :
      (c d : Condition) (x y : List ℕ) → IsFirstBroken parts group analysis c x → IsFirstBroken parts group analysis d y
      → (c ≡ d) × (x ≡ y)

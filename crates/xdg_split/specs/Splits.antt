-- What the searches of several jobs come to, one behind the other.
use Rattle.std.specs.Prelude.{◌≡◌, ℕ, ◌<◌, ◌≤◌, Bool, true, false, List, [], ◌∷◌, ◌++◌, length, take, All, Option, None, Some}
use Rattle.xdg_facts.specs.Endings.{IsBelow}
use Rattle.xdg_facts.specs.Listing.{IsListing}
use Rattle.xdg_facts.specs.Whole.{reach}
use Rattle.xdg_facts.specs.declared.Ending.{Ending}
use Rattle.xdg_facts.specs.declared.Ending.TheVariants as endings
use Rattle.xdg_problem.specs.declared.analysis.Analysis.{Analysis}
use Rattle.xdg_problem.specs.Problems.{IsProblem}
use Rattle.xdg_problem.specs.Solutions.{IsSolutionList}
use Rattle.xdg_problem.specs.Vectors.{shape}
use Rattle.xdg_rules.specs.Boxed.{Boxed}
use Rattle.xdg_split.specs.Asked.{Asked}

-- the boxed prefixes of a job's sentence, and its solutions
pub record AreLists (job : Asked) (counted : List (List ℕ)) (solutions : List Analysis) : Type 0 where
  pub counted_are : IsListing (shape job.parts) (Boxed job.parts) [] counted
  pub solutions_are : IsSolutionList job.parts [] solutions

-- What a job and those behind it reach. Where the job is whole, so that its budget covers its boxed prefixes: all its solutions, and
-- what those behind it reach. Else its solutions among as many boxed prefixes as its budget says, and nothing behind them.
pub data Reaches (job : Asked) (Later : Bool → List Analysis → Type 0) (whole : Bool) (found : List Analysis) : Type 0 where
  all : (counted : List (List ℕ)) (solutions more : List Analysis) → AreLists job counted solutions → length counted ≤ job.budget → Later whole more
      → found ≡ solutions ++ more → Reaches job Later whole found
  some : (counted : List (List ℕ)) (solutions : List Analysis) → AreLists job counted solutions → job.budget < length counted → whole ≡ false
      → found ≡ take (reach (shape job.parts) job.budget counted) solutions → Reaches job Later whole found

-- what jobs reach in their order, and whether all of them are whole
abbrev pub Reach : List Asked → Bool → List Analysis → Type 0
Reach [] whole found = (whole ≡ true) × (found ≡ [])
Reach (job ∷ jobs) whole found = Reaches job (Reach jobs) whole found

-- so many are wanted, there are as many, and these are the first of them
abbrev pub AreFirst : Option ℕ → List Analysis → List Analysis → Type 0
AreFirst None reached found = ⊥
AreFirst (Some n) reached found = (n ≤ length reached) × (found ≡ take n reached)

-- How the answers end, by what is reached. First: as many as wanted. Complete: all jobs are whole, and more were wanted or all. Spent:
-- one isn't, and more were wanted than are reached, or all.
abbrev pub Ends : Ending → Option ℕ → Bool → List Analysis → List Analysis → Type 0
Ends endings.First wanted whole reached found = AreFirst wanted reached found
Ends endings.Complete wanted whole reached found = (whole ≡ true) × (found ≡ reached) × IsBelow (length reached) wanted
Ends endings.Spent wanted whole reached found = (whole ≡ false) × (found ≡ reached) × IsBelow (length reached) wanted

-- what the searches of jobs find, of which so many analyses are wanted or all, and how that ends
pub record IsSplit (wanted : Option ℕ) (jobs : List Asked) (ending : Ending) (found : List Analysis) : Type 0 where
  pub whole : Bool
  pub reached : List Analysis
  pub reach : Reach jobs whole reached
  pub end : Ends ending wanted whole reached found

-- how many analyses are wanted of jobs, by the first of them
abbrev pub wanted_of : List Asked → Option ℕ
wanted_of [] = None
wanted_of (job ∷ jobs) = job.first

-- as many are wanted of each job
abbrev pub AllWant : Option ℕ → List Asked → Type 0
AllWant wanted jobs = All (λ job. job.first ≡ wanted) jobs

-- the sentences of jobs are problems
abbrev pub AreProblems : List Asked → Type 0
AreProblems jobs = All (λ job. IsProblem job.parts) jobs

-- the budget of a job covers its boxed prefixes
abbrev pub IsWhole : Asked → Type 0
IsWhole job = (counted : List (List ℕ)) → IsListing (shape job.parts) (Boxed job.parts) [] counted → length counted ≤ job.budget

-- what jobs reach is one thing, and so is what their searches find
pub record HaveOneSplit (jobs : List Asked) : Type 0 where
  pub whole : Bool
  pub reached : List Analysis
  pub reach : Reach jobs whole reached
  pub only : (other : Bool) (found : List Analysis) → Reach jobs other found → (other ≡ whole) × (found ≡ reached)
  pub one : (wanted : Option ℕ) (ending other : Ending) (found more : List Analysis) → IsSplit wanted jobs ending found → IsSplit wanted jobs other more
      → (ending ≡ other) × (found ≡ more)
  pub enough : All IsWhole jobs → whole ≡ true

-- what jobs come to, and others behind them, is what all of them come to
abbrev pub Continues : Option ℕ → Ending → List Analysis → List Asked → Ending → List Analysis → Type 0
Continues wanted e f others ending found = (jobs : List Asked) → IsSplit wanted jobs e f → IsSplit wanted (jobs ++ others) ending found

-- What the search of a sentence by branches keeps.
use Rattle.std.specs.Prelude.{◌≡◌, ◌≢◌, ℕ, List, [], length, take, All, Option}
use Rattle.xdg_text.specs.declared.form.Form.{Form}
use Rattle.xdg_searches.specs.Branched.{IsBranched, PrintsBranches, branch_jobs}
use Rattle.xdg_facts.specs.declared.Ending.{Ending}
use Rattle.xdg_facts.specs.declared.Ending.TheVariants as endings
use Rattle.xdg_problem.specs.declared.analysis.Analysis.{Analysis}
use Rattle.xdg_problem.specs.declared.parts.Parts.{Parts}
use Rattle.xdg_problem.specs.Solutions.{IsSolutionList}
use Rattle.xdg_split.specs.Splits.{IsWhole}

-- what is found is a front of the one list of the solutions of the sentence, and where the search ends complete, all of it
pub record IsFrontOf (parts : Parts) (ending : Ending) (found : List Analysis) : Type 0 where
  pub solutions : List Analysis
  pub are : IsSolutionList parts [] solutions
  pub front : found ≡ take (length found) solutions
  pub whole : ending ≡ endings.Complete → found ≡ solutions

-- the search prints one text, with one ending
abbrev pub IsOneBranched : Form → ℕ → Option ℕ → Parts → Type 0
IsOneBranched form budget wanted parts =
    (one other : Ending) (text more : List ℕ) → PrintsBranches one form budget wanted parts text → PrintsBranches other form budget wanted parts more
    → (one ≡ other) × (text ≡ more)

pub record BranchedLaws (form : Form) (budget : ℕ) (wanted : Option ℕ) (parts : Parts) : Type 0 where
  pub one : IsOneBranched form budget wanted parts
  pub fronts : (ending : Ending) (found : List Analysis) → IsBranched budget wanted parts ending found → IsFrontOf parts ending found
  -- where the budget covers the boxed prefixes of each branch, it isn't spent
  pub enough : (ending : Ending) (found : List Analysis) → All IsWhole (branch_jobs parts budget wanted) → IsBranched budget wanted parts ending found
      → ending ≢ endings.Spent

-- What the search of a sentence by the branches of its first word finds and prints.
use Rattle.std.specs.Prelude.{◌≡◌, ℕ, ◌≤◌, List, ◌++◌, length, map, Option}
use Rattle.xdg_split.specs.Printed.{blocks, last_line}
use Rattle.xdg_split.specs.Written.{IsSome}
use Rattle.xdg_text.specs.declared.form.Form.{Form}
use Rattle.xdg_facts.specs.declared.Ending.{Ending}
use Rattle.xdg_problem.specs.declared.analysis.Analysis.{Analysis}
use Rattle.xdg_problem.specs.declared.parts.Parts.{Parts}
use Rattle.xdg_problem.specs.Branches.{branch_of, first_candidates}
use Rattle.xdg_problem.specs.Places.{numbers_from}
use Rattle.xdg_split.specs.Asked.{Asked, asked}
use Rattle.xdg_split.specs.Splits.{IsSplit}

-- the budget is 1 to 1,000,000,000, and where a number of analyses is wanted, it is at least one
pub record CanBranch (budget : ℕ) (wanted : Option ℕ) : Type 0 where
  pub some : 1 ≤ budget
  pub most : budget ≤ 1000000000
  pub first : IsSome wanted

-- the search of the branch at a place, with the whole budget
abbrev pub branch_job : Parts → ℕ → Option ℕ → ℕ → Asked
branch_job parts budget wanted place = asked (branch_of parts place) budget wanted

-- the searches of so many branches, from that at a place on
abbrev pub jobs_from : Parts → ℕ → Option ℕ → ℕ → ℕ → List Asked
jobs_from parts budget wanted place count = map (branch_job parts budget wanted) (numbers_from place count)

-- a search for each candidate of the first node, in their order
abbrev pub branch_jobs : Parts → ℕ → Option ℕ → List Asked
branch_jobs parts budget wanted = jobs_from parts budget wanted 0 (length (first_candidates parts))

-- what they find, one branch behind the other, and how that ends
abbrev pub IsBranched : ℕ → Option ℕ → Parts → Ending → List Analysis → Type 0
IsBranched budget wanted parts ending found = IsSplit wanted (branch_jobs parts budget wanted) ending found

-- what is printed: the analyses that are found, numbered from 1, and the last line
pub record PrintsBranches (ending : Ending) (form : Form) (budget : ℕ) (wanted : Option ℕ) (parts : Parts) (text : List ℕ) : Type 0 where
  pub found : List Analysis
  pub is : IsBranched budget wanted parts ending found
  pub text_is : text ≡ blocks form parts 1 found ++ last_line ending (length found)

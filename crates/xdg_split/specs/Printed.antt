-- What a search prints.
use Rattle.std.specs.Prelude.{◌≡◌, ℕ, ◌+◌, List, [], ◌∷◌, ◌++◌, take, map, Option}
use Rattle.xdg_facts.specs.Listing.{IsListing}
use Rattle.xdg_facts.specs.Endings.{IsEnding}
use Rattle.xdg_facts.specs.declared.Ending.{Ending}
use Rattle.xdg_facts.specs.declared.Ending.TheVariants as endings
use Rattle.xdg_problem.specs.declared.analysis.Analysis.{Analysis}
use Rattle.xdg_problem.specs.declared.parts.Parts.{Parts}
use Rattle.xdg_problem.specs.Vectors.{shape, vector}
use Rattle.xdg_problem.specs.Solutions.{IsSolutionList}
use Rattle.xdg_rules.specs.Boxed.{Boxed}
use Rattle.xdg_text.specs.Blocks.{shown}
use Rattle.xdg_text.specs.Lines.{complete_line, first_line, spent_line}
use Rattle.xdg_text.specs.declared.form.Form.{Form}

-- analyses, numbered from a number on
abbrev pub blocks : Form → Parts → ℕ → List Analysis → List ℕ
blocks form parts number [] = []
blocks form parts number (analysis ∷ more) = shown form parts number analysis ++ blocks form parts (number + 1) more

-- the last line behind m analyses
abbrev pub last_line : Ending → ℕ → List ℕ
last_line endings.Complete m = complete_line m
last_line endings.First m = first_line m
last_line endings.Spent m = spent_line m

-- What a search with a budget prints, and how it ends, where so many analyses are wanted or all of them: over the one list of
-- the boxed prefixes after a start and the one list of the solutions after it, the first m solutions, numbered from 1, and the
-- last line with m. The empty list is the start of all.
pub record Prints (ending : Ending) (form : Form) (budget : ℕ) (wanted : Option ℕ) (parts : Parts) (start text : List ℕ) : Type 0 where
  pub counted : List (List ℕ)
  pub counted_are : IsListing (shape parts) (Boxed parts) start counted
  pub solutions : List Analysis
  pub solutions_are : IsSolutionList parts start solutions
  pub printed : ℕ
  pub end : IsEnding ending (shape parts) budget wanted counted (map (vector parts) solutions) printed
  pub text_is : text ≡ blocks form parts 1 (take printed solutions) ++ last_line ending printed

-- a search has one text and one ending
abbrev pub IsOnePrint : Form → ℕ → Option ℕ → Parts → List ℕ → Type 0
IsOnePrint form budget wanted parts start =
    (one other : Ending) (text more : List ℕ) → Prints one form budget wanted parts start text → Prints other form budget wanted parts start more
    → (one ≡ other) × (text ≡ more)

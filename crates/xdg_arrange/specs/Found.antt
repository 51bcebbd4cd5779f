-- What a search finds of an arrangement, and what is printed of it.
use Rattle.std.specs.Prelude.{◌≡◌, ℕ, ◌==◌, cond, List, [], ◌∷◌, ◌++◌, None, Option, codes, decimal, length, map, take}
use Rattle.xdg_split.specs.Printed.{blocks}
use Rattle.xdg_text.specs.declared.form.Form.TheVariants as forms
use Rattle.xdg_io.specs.Held.{Appends, AppendsFront}
use Rattle.xdg_facts.specs.Endings.{IsEnding}
use Rattle.xdg_facts.specs.Listing.{IsListing}
use Rattle.xdg_facts.specs.declared.Ending.{Ending}
use Rattle.xdg_facts.specs.declared.Ending.TheVariants as endings
use Rattle.xdg_problem.specs.declared.analysis.Analysis.{Analysis}
use Rattle.xdg_problem.specs.declared.parts.Parts.{Parts}
use Rattle.xdg_problem.specs.declared.parts.SentenceWord.{SentenceWord}
use Rattle.xdg_problem.specs.Solutions.{IsSolutionList}
use Rattle.xdg_problem.specs.Vectors.{shape, vector}
use Rattle.xdg_rules.specs.Boxed.{Boxed}
use Rattle.xdg_text.specs.Blocks.{block}
use Rattle.xdg_text.specs.Constants.{quoted}
use Rattle.xdg_text.specs.Lines.{line}
use Rattle.xdg_arrange.specs.declared.searching.Searched.{Searched}
use Rattle.xdg_arrange.specs.declared.searching.Searched.TheVariants as searched

-- ---- what is found

-- What a search with a budget finds, in which no number of analyses is wanted, and how it ends: over the one list of the boxed
-- prefixes and the one list of the solutions, the first of these, so many as the ending says.
pub record Finds (ending : Ending) (budget : ℕ) (parts : Parts) (analyses : List Analysis) : Type 0 where
  pub counted : List (List ℕ)
  pub counted_are : IsListing (shape parts) (Boxed parts) [] counted
  pub solutions : List Analysis
  pub solutions_are : IsSolutionList parts [] solutions
  pub number : ℕ
  pub end : IsEnding ending (shape parts) budget None counted (map (vector parts) solutions) number
  pub analyses_are : analyses ≡ take number solutions

-- a search finds one thing
abbrev pub IsOneFind : ℕ → Parts → Type 0
IsOneFind budget parts =
    (one other : Ending) (found more : List Analysis) → Finds one budget parts found → Finds other budget parts more → (one ≡ other) × (found ≡ more)

-- ---- what is printed of it

-- the line that leads the blocks of an arrangement: which of those that are printed it is, and its words
abbrev pub arrangement_line : ℕ → List SentenceWord → List ℕ
arrangement_line number words = line (codes "arrangement") (decimal number ∷ map (λ word. quoted word.text) words)

-- a line and the blocks behind it, and nothing where there is no analysis
abbrev pub led_blocks : List ℕ → Parts → List Analysis → List ℕ
led_blocks lead parts [] = []
led_blocks lead parts (analysis ∷ more) = lead ++ blocks forms.One parts 1 (analysis ∷ more)

-- a block with its number, and before the first one the line
abbrev pub led_block : List ℕ → Parts → ℕ → Analysis → List ℕ
led_block lead parts count analysis = cond (count == 1) lead [] ++ block parts count analysis

-- the text of what a search found that ended so was added
pub record Adds (ending : Ending) (budget : ℕ) (parts : Parts) (lead : List ℕ) (count : ℕ) (old new : Option (List ℕ)) : Type 0 where
  pub analyses : List Analysis
  pub finds : Finds ending budget parts analyses
  pub count_is : count ≡ length analyses
  pub appends : Appends old new (led_blocks lead parts analyses)

-- what a search leaves: the text of what it finds, or where memory is wanting nothing, or where the sink fails a front of that text
abbrev pub Writes : Searched → ℕ → Parts → List ℕ → Option (List ℕ) → Option (List ℕ) → Type 0
Writes (searched.Whole count) budget parts lead old new = Adds endings.Complete budget parts lead count old new
Writes (searched.Spent count) budget parts lead old new = Adds endings.Spent budget parts lead count old new
Writes searched.OutOfMemory budget parts lead old new = new ≡ old
Writes searched.Failed budget parts lead old new =
    (ending : Ending) (analyses : List Analysis) → Finds ending budget parts analyses → AppendsFront old new (led_blocks lead parts analyses)

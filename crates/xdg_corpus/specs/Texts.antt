-- What is printed of the lines of a corpus.
use Rattle.std.specs.Prelude.{◌≡◌, ℕ, ◌+◌, ◌≤◌, List, [], ◌∷◌, ◌++◌, codes, decimal}
use Rattle.xdg_split.specs.Printed.{Prints}
use Rattle.xdg_split.specs.Written.{IsSome}
use Rattle.xdg_text.specs.declared.form.Form.TheVariants as forms
use Rattle.xdg_base.specs.declared.faults.Fault.{Fault}
use Rattle.xdg_command.specs.declared.commands.CorpusOptions.{CorpusOptions}
use Rattle.xdg_inputs.specs.Meanings.{Meaning}
use Rattle.xdg_inputs.specs.Sentences.{HasWords, IsBadWords}
use Rattle.xdg_facts.specs.declared.Ending.{Ending}
use Rattle.xdg_inputs.specs.Places.{line_column}
use Rattle.xdg_problem.specs.declared.parts.Parts.{Parts}
use Rattle.xdg_text.specs.Lines.{fault_text, line}

-- The text of a line alone. Its words are refused, and it is their fault line, with the place within the line; or it is what the search
-- of its problem prints in text 1, from the beginning and with a budget of its own.
pub data LineText (m : Meaning) (options : CorpusOptions) (sentence text : List ℕ) : Type 0 where
  refused : (f : Fault) → IsBadWords m options.segment sentence f → text ≡ fault_text f (line_column sentence f) → LineText m options sentence text
  searched : (parts : Parts) (ending : Ending) → HasWords m options.segment sentence parts → Prints ending forms.One options.budget options.first parts [] text
      → LineText m options sentence text

-- the line that tells the number of a line, counted from 1
abbrev pub sentence_line : ℕ → List ℕ
sentence_line number = line (codes "sentence") (decimal number ∷ [])

-- a line's number, and its text
pub record NumberedText (m : Meaning) (options : CorpusOptions) (number : ℕ) (sentence text : List ℕ) : Type 0 where
  pub own : List ℕ
  pub is : LineText m options sentence own
  pub text_is : text ≡ sentence_line number ++ own

-- a text of the first kind, and behind it one of the second
pub record Joined (First Later : List ℕ → Type 0) (text : List ℕ) : Type 0 where
  pub first : List ℕ
  pub later : List ℕ
  pub begins : First first
  pub goes_on : Later later
  pub text_is : text ≡ first ++ later

-- what is printed of lines, of which the first has this number
abbrev pub LinesText : Meaning → CorpusOptions → ℕ → List (List ℕ) → List ℕ → Type 0
LinesText m options number [] text = text ≡ []
LinesText m options number (sentence ∷ more) text = Joined (NumberedText m options number sentence) (LinesText m options (number + 1) more) text

-- the budget is 1 to 1,000,000,000, and where a number of analyses is wanted of each line, it is at least one
pub record CanSearch (options : CorpusOptions) : Type 0 where
  pub some : 1 ≤ options.budget
  pub most : options.budget ≤ 1000000000
  pub first : IsSome options.first

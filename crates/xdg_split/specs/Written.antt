-- What a search leaves in the sink.
use Rattle.std.specs.Prelude.{◌≡◌, ◌⊎◌, ℕ, ◌≤◌, List, Option, None, Some}
use Rattle.xdg_io.specs.Held.{Appends, AppendsFront}
use Rattle.xdg_facts.specs.declared.Ending.{Ending}
use Rattle.xdg_problem.specs.declared.parts.Parts.{Parts}
use Rattle.xdg_split.specs.Printed.{Prints}
use Rattle.xdg_text.specs.declared.form.Form.{Form}
use Rattle.xdg_split.specs.declared.printing.Printed.{Printed}
use Rattle.xdg_split.specs.declared.printing.Printed.TheVariants as printed

-- the text of a search that ended so was added
pub record WritesWhole (ending : Ending) (form : Form) (budget : ℕ) (wanted : Option ℕ) (parts : Parts) (start : List ℕ) (old new : Option (List ℕ)) : Type 0
  where
    pub text : List ℕ
    pub prints : Prints ending form budget wanted parts start text
    pub appends : Appends old new text

-- the whole text, or where memory was wanting nothing, or where the sink failed a front of what the search prints
abbrev pub Writes : Printed → Form → ℕ → Option ℕ → Parts → List ℕ → Option (List ℕ) → Option (List ℕ) → Type 0
Writes (printed.Ended ending) form budget wanted parts start old new = WritesWhole ending form budget wanted parts start old new
Writes printed.OutOfMemory form budget wanted parts start old new = new ≡ old
Writes printed.Failed form budget wanted parts start old new =
    (ending : Ending) (text : List ℕ) → Prints ending form budget wanted parts start text → AppendsFront old new text

-- the last line was added, or where the sink failed a front of it
abbrev pub EndsLine : Printed → Ending → Option (List ℕ) → Option (List ℕ) → List ℕ → Type 0
EndsLine result ending old new line = ((result ≡ printed.Ended ending) × Appends old new line) ⊎ ((result ≡ printed.Failed) × AppendsFront old new line)

-- where a number of analyses is wanted, it is at least one
abbrev pub IsSome : Option ℕ → Type 0
IsSome None = Unit {0}
IsSome (Some n) = 1 ≤ n

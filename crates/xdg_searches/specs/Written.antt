-- What a search by branches leaves in the sink.
use Rattle.std.specs.Prelude.{◌≡◌, ℕ, List, Option}
use Rattle.xdg_text.specs.declared.form.Form.{Form}
use Rattle.xdg_split.specs.declared.printing.Printed.{Printed}
use Rattle.xdg_split.specs.declared.printing.Printed.TheVariants as printed
use Rattle.xdg_searches.specs.Branched.{PrintsBranches}
use Rattle.xdg_io.specs.Held.{Appends, AppendsFront}
use Rattle.xdg_facts.specs.declared.Ending.{Ending}
use Rattle.xdg_problem.specs.declared.parts.Parts.{Parts}

-- the text of a search that ended so was added
pub record WritesAll (ending : Ending) (form : Form) (budget : ℕ) (wanted : Option ℕ) (parts : Parts) (old new : Option (List ℕ)) : Type 0 where
  pub text : List ℕ
  pub prints : PrintsBranches ending form budget wanted parts text
  pub appends : Appends old new text

-- the whole text, or where memory was wanting nothing, or where the sink failed a front of what is printed
abbrev pub WritesBranches : Printed → Form → ℕ → Option ℕ → Parts → Option (List ℕ) → Option (List ℕ) → Type 0
WritesBranches (printed.Ended ending) form budget wanted parts old new = WritesAll ending form budget wanted parts old new
WritesBranches printed.OutOfMemory form budget wanted parts old new = new ≡ old
WritesBranches printed.Failed form budget wanted parts old new =
    (ending : Ending) (text : List ℕ) → PrintsBranches ending form budget wanted parts text → AppendsFront old new text

-- What answers a job.
use Rattle.std.specs.Prelude.{◌≡◌, ℕ, List, []}
use Rattle.xdg_split.specs.Printed.{Prints}
use Rattle.xdg_text.specs.declared.form.Form.TheVariants as forms
use Rattle.xdg_facts.specs.declared.Ending.{Ending}
use Rattle.xdg_split.specs.Asked.{Asked}
use Rattle.xdg_split.specs.declared.answer.Answer.{Answer}

-- The answer is what the search of the sentence alone prints, from the beginning and in text 1, and how it ends. It is the only one.
pub record IsAnswer (job : Asked) (answer : Answer) : Type 0 where
  pub prints : Prints answer.ending forms.One job.budget job.first job.parts [] answer.bytes
  pub only : (ending : Ending) (text : List ℕ) → Prints ending forms.One job.budget job.first job.parts [] text
      → (ending ≡ answer.ending) × (text ≡ answer.bytes)

-- What a search leaves in a sink that was empty answers its job.
use Rattle.std.proofs.Common.{◌≡◌, ℕ, List, [], ◌++◌, ◌∙◌, ap, subst, sym}
use Rattle.std.specs.Prelude.{Option, None, Some}
use Rattle.xdg_split.specs.Printed.{IsOnePrint, Prints}
use Rattle.xdg_split.specs.Written.{WritesWhole}
use Rattle.xdg_text.specs.declared.form.Form.TheVariants as forms
use Rattle.xdg_facts.specs.declared.Ending.{Ending}
use Rattle.xdg_problem.specs.declared.parts.Parts.{Parts}
use Rattle.xdg_split.specs.Answers.{IsAnswer}
use Rattle.xdg_split.specs.Asked.{Asked, asked}

abbrev known : Option (List ℕ) → List ℕ
known None = []
known (Some bytes) = bytes

pub answers_job : (ending : Ending) (budget : ℕ) (first : Option ℕ) (parts : Parts) (job : Asked) (old new bytes : List ℕ) → old ≡ [] → bytes ≡ new
    → WritesWhole ending forms.One budget first parts [] (Some old) (Some new) → IsOnePrint forms.One budget first parts [] → asked parts budget first ≡ job
    → IsAnswer job (record { bytes = bytes; ending = ending })
answers_job ending budget first parts job old new bytes empty kept whole one is =
    let same : bytes ≡ whole.text = kept ∙ ap known whole.appends.is ∙ ap (λ z. z ++ whole.text) empty in
    let prints : Prints ending forms.One budget first parts [] bytes = subst (λ text. Prints ending forms.One budget first parts [] text) (sym same) whole.prints in
    subst (λ asks. IsAnswer asks (record { bytes = bytes; ending = ending })) is (record { prints = prints; only = λ other text more. one other ending text bytes more prints })

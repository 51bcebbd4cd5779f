-- What was written of a text, whichever text it is.
use Rattle.std.proofs.Common.{◌≡◌, ℕ, ◌+◌, List, [], ◌++◌, length, refl, sym, ◌∙◌, ap, subst}
use Rattle.std.specs.Prelude.{Option}
use Rattle.std.proofs.lemmas.List.{append_assoc, append-nil}
use Rattle.xdg_command.specs.declared.commands.CorpusOptions.{CorpusOptions}
use Rattle.xdg_corpus.specs.Texts.{LinesText}
use Rattle.xdg_corpus.proofs.Numbering.{IsOneText, lines_cut, lines_later}
use Rattle.xdg_inputs.specs.Meanings.{Meaning}
use Rattle.xdg_io.specs.Held.{Appends, AppendsFront, WrittenSoFar}
use Rattle.xdg_io.proofs.Written.{appends_both, appends_nothing, front_of_first, front_of_second}

-- What was added is the front of each text of the first kind, and what is left of it is of the second kind.
pub record Passed (Whole Left : List ℕ → Type 0) (old now : Option (List ℕ)) : Type 0 where
  pub done : List ℕ
  pub appends : Appends old now done
  pub whole : (later : List ℕ) → Left later → Whole (done ++ later)
  pub left : (text : List ℕ) → Whole text → (later : List ℕ) × Left later × (text ≡ done ++ later)

pub passed_none : (Whole : List ℕ → Type 0) (held : Option (List ℕ)) → Passed Whole Whole held held
passed_none Whole held = record { done = []; appends = appends_nothing held; whole = λ later is. is; left = λ text is. (text, is, refl) }

module _ (m : Meaning) (options : CorpusOptions) (Whole : List ℕ → Type 0) (number : ℕ) (all taken more : List (List ℕ)) (cut : all ≡ taken ++ more) where
  -- one text of the first lines was added
  pub passed_lines : (first : List ℕ) (old now new : Option (List ℕ)) → Passed Whole (LinesText m options number all) old now → IsOneText (LinesText m options number taken) first → Appends now new first
      → Passed Whole (LinesText m options (number + length taken) more) old new
  passed_lines first old now new so_far one added = record {
    done = so_far.done ++ first;
    appends = appends_both so_far.appends added;
    whole = λ later is.
        subst Whole (sym (append_assoc so_far.done first later))
        (so_far.whole (first ++ later) (subst (λ z. LinesText m options number z (first ++ later)) (sym cut) (lines_later m options number taken more first later one.is is)));
    left = λ text is.
        let rest = so_far.left text is in
        let parts = lines_cut m options number taken more rest.0 (subst (λ z. LinesText m options number z rest.0) cut rest.1) in (
          parts.later,
          parts.goes_on,
          rest.2 ∙ ap (λ z. so_far.done ++ z) (parts.text_is ∙ ap (λ z. z ++ parts.later) (one.only parts.first parts.begins)) ∙ sym (append_assoc so_far.done first parts.later),
        );
  }

  -- a front of it was added
  pub passed_front : (first : List ℕ) (old now new : Option (List ℕ)) → Passed Whole (LinesText m options number all) old now → IsOneText (LinesText m options number taken) first → AppendsFront now new first
      → (text : List ℕ) → Whole text → AppendsFront old new text
  passed_front first old now new so_far one added text is =
      let rest = so_far.left text is in
      let parts = lines_cut m options number taken more rest.0 (subst (λ z. LinesText m options number z rest.0) cut rest.1) in
      let first_is = one.only parts.first parts.begins in
      let front : AppendsFront now new (first ++ parts.later) = front_of_first parts.later added in
      subst (AppendsFront old new) (sym (rest.2 ∙ ap (λ z. so_far.done ++ z) (parts.text_is ∙ ap (λ z. z ++ parts.later) first_is))) (front_of_second so_far.appends front)

-- all was added
pub passed_all : (m : Meaning) (options : CorpusOptions) (Whole : List ℕ → Type 0) (number : ℕ) (old now : Option (List ℕ)) (so_far : Passed Whole (LinesText m options number []) old now)
    → Whole so_far.done × ((text : List ℕ) → Whole text → so_far.done ≡ text)
passed_all m options Whole number old now so_far = (
  subst Whole (append-nil so_far.done) (so_far.whole [] refl),
  λ text is. let rest = so_far.left text is in sym (rest.2 ∙ ap (λ z. so_far.done ++ z) rest.1 ∙ append-nil so_far.done),
)

-- where no more is added, a front was
pub passed_part : (Whole Left : List ℕ → Type 0) (old now : Option (List ℕ)) → Passed Whole Left old now → (text : List ℕ) → Whole text → (rest : List ℕ) × WrittenSoFar old now text rest
passed_part Whole Left old now so_far text is = let rest = so_far.left text is in (rest.0, record { front = so_far.done; parts = sym rest.2; appends = so_far.appends })

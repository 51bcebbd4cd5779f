-- The texts of lines are one text.
use Rattle.std.proofs.Common.{◌≡◌, ℕ, zero, suc, ◌+◌, List, [], ◌∷◌, ◌++◌, length, refl, sym, ◌∙◌, ap, subst, arith}
use Rattle.std.specs.Prelude.{None, Some, slice_get}
use Rattle.std.specs.List.{AllZip}
use Rattle.std.proofs.lemmas.List.{append_assoc}
use Rattle.xdg_split.specs.Printed.{Prints}
use Rattle.xdg_text.specs.declared.form.Form.TheVariants as forms
use Rattle.xdg_base.specs.declared.faults.Fault.{Fault}
use Rattle.xdg_command.specs.declared.commands.CorpusOptions.{CorpusOptions}
use Rattle.xdg_corpus.specs.Groups.{AsksFor, StandsFor, answer_text, group_text, own_text}
use Rattle.xdg_corpus.specs.Texts.{Joined, LineText, LinesText, NumberedText, refused, searched, sentence_line}
use Rattle.xdg_corpus.specs.declared.group.Sentence.{Sentence}
use Rattle.xdg_corpus.specs.declared.group.Sentence.TheVariants as sentences
use Rattle.xdg_inputs.specs.Meanings.{Meaning}
use Rattle.xdg_inputs.specs.Sentences.{RejectsWords}
use Rattle.xdg_inputs.specs.Places.{line_column}
use Rattle.xdg_split.specs.Answers.{IsAnswer}
use Rattle.xdg_split.specs.Asked.{Asked, asked}
use Rattle.xdg_split.specs.declared.answer.Answer.{Answer}
use Rattle.xdg_text.specs.Lines.{fault_text}

-- the text is of a kind, and no other text is
pub record IsOneText (P : List ℕ → Type 0) (text : List ℕ) : Type 0 where
  pub is : P text
  pub only : (other : List ℕ) → P other → other ≡ text

-- ---- texts one behind the other

one_joined : (First Later : List ℕ → Type 0) (first later : List ℕ) → IsOneText First first → IsOneText Later later → IsOneText (Joined First Later) (first ++ later)
one_joined First Later first later one other = record {
  is = record { first = first; later = later; begins = one.is; goes_on = other.is; text_is = refl };
  only = λ text j. j.text_is ∙ ap (λ z. z ++ j.later) (one.only j.first j.begins) ∙ ap (λ z. first ++ z) (other.only j.later j.goes_on);
}

module _ (m : Meaning) (options : CorpusOptions) where
  -- ---- a line

  line_refused : (line : List ℕ) (f : Fault) → RejectsWords m options.segment line f → IsOneText (LineText m options line) (fault_text f (line_column line f))
  line_refused line f rejects = record { is = refused f rejects.is refl; only = same }
    where
      same : (other : List ℕ) → LineText m options line other → other ≡ fault_text f (line_column line f)
      same other (refused g bad e) = e ∙ ap (λ z. fault_text z (line_column line z)) (rejects.one g bad)
      same other (searched parts ending has prints) = absurd (rejects.never parts has)

  line_searched : (line : List ℕ) (job : Asked) (answer : Answer) → AsksFor m options line job → IsAnswer job answer → IsOneText (LineText m options line) answer.bytes
  line_searched line job answer asks answers = record { is = searched asks.parts answer.ending asks.accepts.has own.prints; only = same }
    where
      own : IsAnswer (asked asks.parts options.budget options.first) answer
      own = subst (λ z. IsAnswer z answer) asks.is answers

      same : (other : List ℕ) → LineText m options line other → other ≡ answer.bytes
      same other (refused g bad e) = absurd (asks.accepts.never g bad)
      same other (searched parts ending has prints) =
          (own.only ending other (subst (λ z. Prints ending forms.One options.budget options.first z [] other) (asks.accepts.one parts has) prints)).1

  -- ---- what stands for a line in its group

  answer_at : (jobs : List Asked) (answers : List Answer) (place : ℕ) (job : Asked) → AllZip IsAnswer jobs answers → slice_get jobs place ≡ Some job → (answer : Answer) × (slice_get answers place ≡ Some answer) × IsAnswer job answer
  answer_at [] answers place job all e = absurd (let bad : None ≡ Some job = e in cc)
  answer_at (j ∷ jobs) [] place job all e = absurd all
  answer_at (j ∷ jobs) (a ∷ answers) zero job all e = let is : j ≡ job = cc in (a, refl, subst (λ z. IsAnswer z a) is all.0)
  answer_at (j ∷ jobs) (a ∷ answers) (suc place) job all e = answer_at jobs answers place job all.1 e

  one_own : (jobs : List Asked) (answers : List Answer) (line : List ℕ) (sentence : Sentence) → AllZip IsAnswer jobs answers → StandsFor m options jobs line sentence → IsOneText (LineText m options line) (own_text answers sentence)
  one_own jobs answers line (sentences.Refused f place) all s = subst (λ z. IsOneText (LineText m options line) (fault_text f z)) (sym s.1) (line_refused line f s.0)
  one_own jobs answers line (sentences.Job place) all s =
      let found = answer_at jobs answers place s.0 all s.1 in
      subst (λ z. IsOneText (LineText m options line) (answer_text z)) (sym found.1) (line_searched line s.0 found.0 s.2 found.2)

  one_numbered : (number : ℕ) (line own : List ℕ) → IsOneText (LineText m options line) own → IsOneText (NumberedText m options number line) (sentence_line number ++ own)
  one_numbered number line own one = record {
    is = record { own = own; is = one.is; text_is = refl };
    only = λ other n. n.text_is ∙ ap (λ z. sentence_line number ++ z) (one.only n.own n.is);
  }

  -- ---- the texts of a group are the texts of its lines

  pub one_group : (jobs : List Asked) (answers : List Answer) (number : ℕ) (taken : List (List ℕ)) (said : List Sentence) → AllZip IsAnswer jobs answers → AllZip (StandsFor m options jobs) taken said
      → IsOneText (LinesText m options number taken) (group_text answers number said)
  one_group jobs answers number [] [] all has = record { is = refl; only = λ other e. e }
  one_group jobs answers number [] (s ∷ said) all has = absurd has
  one_group jobs answers number (line ∷ taken) [] all has = absurd has
  one_group jobs answers number (line ∷ taken) (s ∷ said) all has =
      one_joined (NumberedText m options number line) (LinesText m options (number + 1) taken) (sentence_line number ++ own_text answers s) (group_text answers (number + 1) said)
      (one_numbered number line (own_text answers s) (one_own jobs answers line s all has.0)) (one_group jobs answers (number + 1) taken said all has.1)

  -- ---- lines that stand behind others

  pub lines_later : (number : ℕ) (taken more : List (List ℕ)) (first later : List ℕ) → LinesText m options number taken first → LinesText m options (number + length taken) more later → LinesText m options number (taken ++ more) (first ++ later)
  lines_later number [] more first later begins goes_on =
      subst (λ z. LinesText m options number more (z ++ later)) (sym begins) (subst (λ n. LinesText m options n more later) (let e : number + 0 ≡ number = omega arith in e) goes_on)
  lines_later number (line ∷ taken) more first later begins goes_on = record {
    first = begins.first;
    later = begins.later ++ later;
    begins = begins.begins;
    goes_on = lines_later (number + 1) taken more begins.later later begins.goes_on (subst (λ n. LinesText m options n more later) (let e : number + suc (length taken) ≡ number + 1 + length taken = omega arith in e) goes_on);
    text_is = ap (λ z. z ++ later) begins.text_is ∙ append_assoc begins.first begins.later later;
  }

  pub lines_cut : (number : ℕ) (taken more : List (List ℕ)) (text : List ℕ) → LinesText m options number (taken ++ more) text → Joined (LinesText m options number taken) (LinesText m options (number + length taken) more) text
  lines_cut number [] more text all = record {
    first = [];
    later = text;
    begins = refl;
    goes_on = subst (λ n. LinesText m options n more text) (let e : number ≡ number + 0 = omega arith in e) all;
    text_is = refl;
  }
  lines_cut number (line ∷ taken) more text all =
      let behind = lines_cut (number + 1) taken more all.later all.goes_on in
      record {
        first = all.first ++ behind.first;
        later = behind.later;
        begins = record { first = all.first; later = behind.first; begins = all.begins; goes_on = behind.begins; text_is = refl };
        goes_on = subst (λ n. LinesText m options n more behind.later) (let e : number + 1 + length taken ≡ number + suc (length taken) = omega arith in e) behind.goes_on;
        text_is = all.text_is ∙ ap (λ z. all.first ++ z) behind.text_is ∙ sym (append_assoc all.first behind.first behind.later);
      }

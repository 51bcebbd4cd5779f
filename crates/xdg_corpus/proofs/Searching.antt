-- The lines of a text, group by group.
use Rattle.std.proofs.Common.{◌≡◌, ◌≤◌, ℕ, ◌+◌, List, [], ◌∷◌, length, refl, sym, ◌∙◌, ap, subst, arith}
use Rattle.std.specs.Prelude.{Option}
use Rattle.std.specs.List.{AllZip}
use Rattle.xdg_command.specs.declared.commands.CorpusOptions.{CorpusOptions}
use Rattle.xdg_corpus.specs.Groups.{StandsFor, TakesLines, group_text}
use Rattle.xdg_corpus.specs.Lines.{lines}
use Rattle.xdg_corpus.specs.Outcomes.{AreSearched}
use Rattle.xdg_corpus.specs.Texts.{LinesText}
use Rattle.xdg_corpus.specs.declared.group.Group.{Group}
use Rattle.xdg_corpus.specs.declared.group.Sentence.{Sentence}
use Rattle.xdg_corpus.proofs.Grouping.{taken_count}
use Rattle.xdg_corpus.proofs.Numbering.{IsOneText, one_group}
use Rattle.xdg_corpus.proofs.Passing.{Passed, passed_all, passed_front, passed_lines, passed_none, passed_part}
use Rattle.xdg_inputs.specs.Meanings.{Meaning}
use Rattle.xdg_io.specs.Held.{Appends, AppendsFront}
use Rattle.xdg_corpus.specs.Runs.{LeavesPart}
use Rattle.xdg_inputs.specs.declared.status.Status.TheVariants as statuses
use Rattle.xdg_split.specs.Answers.{IsAnswer}
use Rattle.xdg_split.specs.Asked.{Asked}
use Rattle.xdg_split.specs.declared.answer.Answer.{Answer}

module _ (m : Meaning) (options : CorpusOptions) (text : List ℕ) where
  -- the texts of the lines before the rest were added, and the first line of the rest has this number
  pub record PrintedSoFar (rest : List ℕ) (number : ℕ) (old now : Option (List ℕ)) : Type 0 where
    pub passed : Passed (LinesText m options 1 (lines text)) (LinesText m options number (lines rest)) old now
    pub some : 1 ≤ number
    pub within : number + length rest ≤ 1 + length text

  pub printed_none : (held : Option (List ℕ)) → PrintedSoFar text 1 held held
  printed_none held = record { passed = passed_none (LinesText m options 1 (lines text)) held; some = omega arith; within = omega arith }

  -- a rest that is empty
  pub printed_all : (rest : List ℕ) (number : ℕ) (old now : Option (List ℕ)) → PrintedSoFar rest number old now → length rest ≡ 0 → LeavesPart (AreSearched options m text) statuses.Done old now
  printed_all [] number old now so_far empty =
      let all = passed_all m options (LinesText m options 1 (lines text)) number old now so_far.passed in
      record { text = so_far.passed.done; outcome = (refl, all.0); only = λ other more o. (sym o.0, all.1 more o.1); appends = so_far.passed.appends }
  printed_all (byte ∷ rest) number old now so_far empty = absurd (omega (arith, empty))

  -- memory is wanting
  pub printed_part : (rest : List ℕ) (number : ℕ) (old now : Option (List ℕ)) → PrintedSoFar rest number old now → LeavesPart (AreSearched options m text) statuses.OutOfMemory old now
  printed_part rest number old now so_far status printed o = passed_part (LinesText m options 1 (lines text)) (LinesText m options number (lines rest)) old now so_far.passed printed o.1

  -- the rest is no longer than the text
  pub rest_within : (rest : List ℕ) (number : ℕ) (old now : Option (List ℕ)) → PrintedSoFar rest number old now → length rest ≤ length text
  rest_within rest number old now so_far = let some = so_far.some in let within = so_far.within in omega (arith, some, within)

  module _ (rest later : List ℕ) (number : ℕ) (group : Group) (jobs : List Asked) (said : List Sentence) (answers : List Answer) (takes : TakesLines m options rest group later) (jobs_are : jobs ≡ group.jobs.items) (said_are : said ≡ group.sentences.items)
      (answered : AllZip IsAnswer jobs answers) where
    texts : IsOneText (LinesText m options number takes.taken) (group_text answers number said)
    texts = one_group m options jobs answers number takes.taken said answered (subst (λ js. AllZip (StandsFor m options js) takes.taken said) (sym jobs_are) (subst (AllZip (StandsFor m options group.jobs.items) takes.taken) (sym said_are) takes.has))

    count : length said ≡ length takes.taken
    count = ap length said_are ∙ taken_count m options rest group later takes

    -- the numbers of the lines of a group
    pub numbers : (old now : Option (List ℕ)) → PrintedSoFar rest number old now → number + length said + length later ≤ 1 + length text
    numbers old now so_far = let within = so_far.within in let few = takes.fewer in let same = count in omega (arith, within, few, same)

    -- the texts of a group were added
    pub printed_group : (old now new : Option (List ℕ)) → PrintedSoFar rest number old now → Appends now new (group_text answers number said) → PrintedSoFar later (number + length said) old new
    printed_group old now new so_far added = record {
      passed = subst (λ n. Passed (LinesText m options 1 (lines text)) (LinesText m options n (lines later)) old new) (ap (λ n. number + n) (sym count))
          (passed_lines m options (LinesText m options 1 (lines text)) number (lines rest) takes.taken (lines later) takes.lines_are (group_text answers number said) old now new so_far.passed texts added);
      some = let some = so_far.some in omega (arith, some);
      within = numbers old now so_far;
    }

    -- a front of them was added
    pub printed_front : (old now new : Option (List ℕ)) → PrintedSoFar rest number old now → AppendsFront now new (group_text answers number said) → LeavesPart (AreSearched options m text) statuses.WriteFault old new
    printed_front old now new so_far added status printed o =
        passed_front m options (LinesText m options 1 (lines text)) number (lines rest) takes.taken (lines later) takes.lines_are (group_text answers number said) old now new so_far.passed texts added printed o.1

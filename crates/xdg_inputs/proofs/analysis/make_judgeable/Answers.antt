use Rattle.std.proofs.Common.{Err, sym, ◌∙◌, ap, subst}
use Rattle.std.specs.Prelude.{IfErr}
use Rattle.std.proofs.lemmas.Result.{err_from_is_err_and}
use Rattle.xdg_inputs.specs.Answers.{grammar_in}
use Rattle.xdg_inputs.specs.Judging.{IsNotJudged, no_memory}
use Rattle.xdg_inputs.proofs.Analysing.{same_words, words_unknown, misfits}
use Rattle.xdg_inputs.proofs.analysis.make_judgeable.Goals as goal

pub returns-in_err-words-clause-refused : goal.returns-in_err-words-clause-refused
returns-in_err-words-clause-refused c =
    let p = err_from_is_err_and c.from_residual.result c.from_residual.ensures.1 in
    subst (λ r. IfErr r (IsNotJudged (grammar_in c.args.expanded.now) c.args.text.now)) (sym (p.1 ∙ ap Err p.2)) no_memory

pub returns-in-Err-clause-refused : goal.returns-in-Err-clause-refused
returns-in-Err-clause-refused c =
    subst (IsNotJudged (grammar_in c.args.expanded.now) c.args.text.now) (sym c.unknown_word.ensures)
    (words_unknown (grammar_in c.args.expanded.now) c.args.text.now c.in_ok-words.words c.in-Err.stop (c.in_ok-words.ensures ∙ c.as_slice.ensures) c.in-Err.ensures.refused)

pub fit-requires-clause-words : goal.fit-requires-clause-words
fit-requires-clause-words c = same_words (grammar_in c.args.expanded.now) c.args.text.now c.in_ok-words.words c.in-Ok.problem (c.in_ok-words.ensures ∙ c.as_slice.ensures) c.in-Ok.ensures.compiled

pub returns-in-Err-fit-clause-refused : goal.returns-in-Err-fit-clause-refused
returns-in-Err-fit-clause-refused c =
    misfits (grammar_in c.args.expanded.now) c.args.text.now c.in_ok-words.words c.in-Ok.problem c.in-Err-fit.stop (c.in_ok-words.ensures ∙ c.as_slice.ensures) c.in-Ok.ensures.compiled c.in-Ok.ensures.sentence c.in-Err-fit.ensures.tells c.in-Err-fit.ensures.only

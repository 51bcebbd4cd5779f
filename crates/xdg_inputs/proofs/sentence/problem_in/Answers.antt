use Rattle.std.proofs.Common.{sym, subst}
use Rattle.std.specs.Str.{IsValidUpTo}
use Rattle.xdg_inputs.specs.Answers.{meaning_of}
use Rattle.xdg_problem.specs.declared.parts.Parts.{Parts}
use Rattle.xdg_inputs.specs.Refusals.{Stops}
use Rattle.xdg_inputs.specs.Sentences.{AcceptsWords, HasProblem, IsBadSentence, StopsWords}
use Rattle.xdg_build.specs.Refusals.{refusal}
use Rattle.xdg_inputs.proofs.Taking.{no_text_rejected}
use Rattle.xdg_inputs.proofs.Sentencing.{problem_taken, sentence_accepted, sentence_stops}
use Rattle.xdg_inputs.proofs.sentence.problem_in.Goals as goal

pub returns-in-Err-clause-refused : goal.returns-in-Err-clause-refused
returns-in-Err-clause-refused c =
    subst (Stops (Unit {0}) 0 0 Parts (IsBadSentence (meaning_of c.args.expanded.now) c.args.segment c.args.input.now) (HasProblem (meaning_of c.args.expanded.now) c.args.segment c.args.input.now)) (sym c.no_text.ensures)
    (λ told. no_text_rejected refusal c.args.expanded.now c.requires.lexicon c.args.segment c.args.input.now (HasProblem (meaning_of c.args.expanded.now) c.args.segment c.args.input.now) (problem_taken c.args.expanded.now c.requires.lexicon c.args.segment c.args.input.now) c.valid_up_to.result c.requires.within c.in-Err.ensures.cases.0 (subst (IsValidUpTo c.args.input.now) (sym c.valid_up_to.ensures) c.in-Err.ensures.cases.1))

pub returns-in-Ok-problem_of-clause-found : goal.returns-in-Ok-problem_of-clause-found
returns-in-Ok-problem_of-clause-found c =
    let m = meaning_of c.args.expanded.now in
    sentence_accepted m c.args.segment c.args.input.now c.requires.within c.in-Ok.ensures.cases.1 c.in-Ok-problem_of.problem (subst (λ z. AcceptsWords m c.args.segment z c.in-Ok-problem_of.problem) c.in-Ok.ensures.cases.0 c.in-Ok-problem_of.ensures.found)

pub returns-in-Err-problem_of-clause-refused : goal.returns-in-Err-problem_of-clause-refused
returns-in-Err-problem_of-clause-refused c =
    let m = meaning_of c.args.expanded.now in
    subst (Stops (Unit {0}) 0 0 Parts (IsBadSentence m c.args.segment c.args.input.now) (HasProblem m c.args.segment c.args.input.now)) (sym c.stopped_in.ensures)
    (sentence_stops m c.args.segment c.args.input.now c.requires.within c.in-Ok.ensures.cases.1 c.in-Err-problem_of.stop (subst (λ z. StopsWords m c.args.segment z c.in-Err-problem_of.stop) c.in-Ok.ensures.cases.0 c.in-Err-problem_of.ensures.refused))

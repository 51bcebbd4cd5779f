use Rattle.std.proofs.Common.{List, ℕ, Some, ◌≡◌, subst}
use Rattle.xdg_corpus.specs.Inputs.{HasText, IsBadCorpus}
use Rattle.xdg_corpus.specs.Outcomes.{AreSearched}
use Rattle.xdg_inputs.specs.Answers.{meaning_of}
use Rattle.xdg_inputs.specs.Refusals.{Stops}
use Rattle.xdg_inputs.specs.Stages.{Accepts}
use Rattle.xdg_inputs.specs.declared.status.Status.TheVariants as statuses
use Rattle.xdg_corpus.proofs.Commanding.{lines_leave, text_leaves}
use Rattle.xdg_corpus.proofs.Parting.{stopped_part}
use Rattle.xdg_corpus.proofs.command.corpus_expanded.Goals as goal

pub returns-in-Err-clause-leaves : goal.returns-in-Err-clause-leaves
returns-in-Err-clause-leaves g c content told =
    stopped_part (List ℕ) statuses.BadSentence (IsBadCorpus content) (HasText content) (AreSearched c.args.options.now (meaning_of c.args.expanded.now)) (g.S.Source.left c.args.input.now ≡ Some content)
    (g.S.Source.faults c.args.input.now) (g.S.Source.faults c.read_input.new.source) c.refuse.result c.in-Err.refusal (g.K.Sink.held c.args.out.now) (g.K.Sink.held c.refuse.new.out) told (λ e. e) (c.in-Err.ensures.refused content) c.refuse.ensures.written

pub returns-in-Ok-text_of-clause-leaves : goal.returns-in-Ok-text_of-clause-leaves
returns-in-Ok-text_of-clause-leaves g c content told =
    lines_leave (meaning_of c.args.expanded.now) c.args.options.now (g.S.Source.left c.args.input.now) (g.S.Source.left c.read_input.new.source) c.in-Ok.bytes.items content c.in-Ok.ensures.all told c.in-Ok-text_of.text.now c.print_lines.result (g.K.Sink.held c.args.out.now) (g.K.Sink.held c.print_lines.new.out)
    (subst (λ z. Accepts (List ℕ) (IsBadCorpus z) (HasText z) c.in-Ok-text_of.text.now) c.deref.ensures.value c.in-Ok-text_of.ensures.found) c.print_lines.ensures.leaves

pub returns-clause-leaves : goal.returns-clause-leaves
returns-clause-leaves g c content told =
    text_leaves (meaning_of c.args.expanded.now) c.args.options.now (g.S.Source.left c.args.input.now) (g.S.Source.left c.read_input.new.source) c.in-Ok.bytes.items content c.in-Ok.ensures.all told c.refuse-in-Err-text_of.result c.in-Err-text_of.refusal (g.K.Sink.held c.args.out.now) (g.K.Sink.held c.refuse-in-Err-text_of.new.out)
    (subst (λ z. Stops (Unit {0}) 0 0 (List ℕ) (IsBadCorpus z) (HasText z) c.in-Err-text_of.refusal) c.deref.ensures.value c.in-Err-text_of.ensures.refused) c.refuse-in-Err-text_of.ensures.written

use Rattle.std.proofs.Common.{◌∙◌, ap, subst}
use Rattle.xdg_print.specs.LexiconText.{lexicon_text}
use Rattle.xdg_inputs.specs.Loaded.{read_of}
use Rattle.xdg_inputs.specs.Outcomes.{IsDone}
use Rattle.xdg_inputs.specs.Runs.{Leaves}
use Rattle.xdg_reports.specs.Runs.{ReportEnds}
use Rattle.xdg_inputs.proofs.Meaning.{meaning_leaves, meaning_refused}
use Rattle.xdg_inputs.specs.declared.status.Status.TheVariants as statuses
use Rattle.xdg_inputs.proofs.Writing.{refused_wrote, text_wrote}
use Rattle.xdg_reports.proofs.reports.list_loaded.Goals as goal

pub returns-in-Err-clause-leaves : goal.returns-in-Err-clause-leaves
returns-in-Err-clause-leaves g c =
    meaning_refused (read_of c.args.loaded) (λ m. IsDone (lexicon_text m.table m.entries)) c.refuse.result _ c.in-Err.stop _ _ _ c.deref.ensures.value c.in-Err.ensures.tells c.in-Err.ensures.only c.stopped_in.ensures c.refuse.ensures.written

pub returns-in-Ok-lexicon_text-clause-leaves : goal.returns-in-Ok-lexicon_text-clause-leaves
returns-in-Ok-lexicon_text-clause-leaves g c =
    meaning_leaves (read_of c.args.loaded) (λ m. IsDone (lexicon_text m.table m.entries)) c.write_text.result c.in-Ok.expanded _ _ c.in-Ok.ensures.tells c.in-Ok.ensures.only
    (subst (λ z. Leaves (IsDone z) c.write_text.result (g.K.Sink.held c.args.out.now) (g.K.Sink.held c.write_text.new.out))
    (c.as_bytes.ensures.value ∙ c.as_str.ensures ∙ c.in-Ok-lexicon_text.ensures ∙ ap (λ z. lexicon_text z c.in-Ok.expanded.lexicon.entries) c.types.ensures.same) c.write_text.ensures.leaves)

pub returns-in-Err-clause-wrote : goal.returns-in-Err-clause-wrote
returns-in-Err-clause-wrote g c =
    refused_wrote ReportEnds statuses.BadGrammar c.refuse.result c.stopped_in.result _ _ _ _ tt tt tt tt tt c.refuse.ensures.written c.refuse.ensures.quiet

pub returns-in-Ok-lexicon_text-clause-wrote : goal.returns-in-Ok-lexicon_text-clause-wrote
returns-in-Ok-lexicon_text-clause-wrote g c = text_wrote ReportEnds c.write_text.result _ _ _ _ tt tt c.write_text.ensures.ends c.write_text.ensures.out_quiet

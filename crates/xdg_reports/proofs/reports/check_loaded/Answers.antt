use Rattle.std.proofs.Common.{◌∙◌, ap, length, subst}
use Rattle.xdg_classes.specs.Definitions.{classes}
use Rattle.xdg_inputs.specs.Loaded.{read_of}
use Rattle.xdg_inputs.specs.Outcomes.{IsDone}
use Rattle.xdg_reports.specs.Outcomes.{check_line, counts_line}
use Rattle.xdg_inputs.specs.Runs.{Leaves}
use Rattle.xdg_reports.specs.Runs.{ReportEnds}
use Rattle.xdg_inputs.proofs.Meaning.{meaning_leaves, meaning_refused}
use Rattle.xdg_inputs.specs.declared.status.Status.TheVariants as statuses
use Rattle.xdg_inputs.proofs.Writing.{refused_wrote, text_wrote}
use Rattle.xdg_reports.proofs.reports.check_loaded.Goals as goal

pub returns-in-Err-clause-leaves : goal.returns-in-Err-clause-leaves
returns-in-Err-clause-leaves g c =
    meaning_refused (read_of c.args.loaded) (λ m. IsDone (check_line (read_of c.args.loaded) m)) c.refuse.result _ c.in-Err.stop _ _ _ c.deref.ensures.value c.in-Err.ensures.tells c.in-Err.ensures.only c.stopped_in.ensures c.refuse.ensures.written

pub returns-in-Ok-counts_line-clause-leaves : goal.returns-in-Ok-counts_line-clause-leaves
returns-in-Ok-counts_line-clause-leaves g c =
    meaning_leaves (read_of c.args.loaded) (λ m. IsDone (check_line (read_of c.args.loaded) m)) c.write_text.result c.in-Ok.expanded _ _ c.in-Ok.ensures.tells c.in-Ok.ensures.only
    (subst (λ z. Leaves (IsDone z) c.write_text.result (g.K.Sink.held c.args.out.now) (g.K.Sink.held c.write_text.new.out))
    (c.as_slice.ensures ∙ c.in-Ok-counts_line.ensures ∙ ap (λ z. counts_line (length z) (length c.classes-classes.result.now) c.len.result) (c.used-dims.ensures.same ∙ ap (λ t. t.used) c.types.ensures.same)
    ∙ ap (λ n. counts_line (length c.in-Ok.expanded.checked.types.used) n c.len.result) (ap length c.classes-classes.ensures.same ∙ c.in-Ok.ensures.classes)
    ∙ ap (counts_line (length c.in-Ok.expanded.checked.types.used) (length (classes c.args.loaded.tree.statements))) c.len.ensures.len) c.write_text.ensures.leaves)

pub returns-in-Err-clause-wrote : goal.returns-in-Err-clause-wrote
returns-in-Err-clause-wrote g c =
    refused_wrote ReportEnds statuses.BadGrammar c.refuse.result c.stopped_in.result _ _ _ _ tt tt tt tt tt c.refuse.ensures.written c.refuse.ensures.quiet

pub returns-in-Ok-counts_line-clause-wrote : goal.returns-in-Ok-counts_line-clause-wrote
returns-in-Ok-counts_line-clause-wrote g c = text_wrote ReportEnds c.write_text.result _ _ _ _ tt tt c.write_text.ensures.ends c.write_text.ensures.out_quiet

use Rattle.std.proofs.Common.{◌∙◌, subst}
use Rattle.xdg_inputs.specs.Outcomes.{IsDone}
use Rattle.xdg_inputs.specs.Runs.{Leaves}
use Rattle.xdg_reports.specs.Runs.{PrintEnds}
use Rattle.xdg_inputs.proofs.Writing.{text_wrote}
use Rattle.xdg_reports.proofs.reports.print_loaded.Goals as goal

pub returns-in-Ok-clause-leaves : goal.returns-in-Ok-clause-leaves
returns-in-Ok-clause-leaves g c =
    subst (λ z. Leaves (IsDone z) c.write_text.result (g.K.Sink.held c.args.out.now) (g.K.Sink.held c.write_text.new.out)) (c.as_bytes.ensures.value ∙ c.as_str.ensures ∙ c.in-Ok.ensures.canonical) c.write_text.ensures.leaves

pub returns-in-Ok-clause-wrote : goal.returns-in-Ok-clause-wrote
returns-in-Ok-clause-wrote g c = text_wrote PrintEnds c.write_text.result _ _ _ _ tt tt c.write_text.ensures.ends c.write_text.ensures.out_quiet

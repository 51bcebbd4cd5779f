use Rattle.xdg_inputs.specs.Judging.{analysed_of}
use Rattle.xdg_inputs.specs.declared.status.Status.TheVariants as statuses
use Rattle.xdg_inputs.proofs.Leaving.{accepted_leaves, stopped_leaves}
use Rattle.xdg_inputs.proofs.Writing.{judged_wrote, refused_quiet, refused_wrote}
use Rattle.xdg_reports.proofs.explain.explain_ruled.Goals as goal

pub returns-in-Ok-clause-leaves : goal.returns-in-Ok-clause-leaves
returns-in-Ok-clause-leaves g c files told =
    accepted_leaves _ _ _ _ _ (analysed_of c.in-Ok.found) _ _ _ (rw c.as_str.ensures at (c.in-Ok.ensures.found files told)) c.explain_found.ensures.leaves

pub returns-in-Err-clause-leaves : goal.returns-in-Err-clause-leaves
returns-in-Err-clause-leaves g c files told = stopped_leaves _ _ _ _ _ _ _ _ _ _ _ _ told (λ e. e) (rw c.as_str.ensures at (c.in-Err.ensures.refused files)) c.refuse.ensures.written

pub returns-in-Ok-clause-wrote : goal.returns-in-Ok-clause-wrote
returns-in-Ok-clause-wrote g c = judged_wrote _ _ _ _ _ _ _ tt tt tt c.explain_found.ensures.ends c.explain_found.ensures.leaves c.explain_found.ensures.out_quiet

pub returns-in-Err-clause-wrote : goal.returns-in-Err-clause-wrote
returns-in-Err-clause-wrote g c = refused_wrote _ statuses.BadAnalysis _ c.in-Err.refusal _ _ _ _ tt tt tt tt tt c.refuse.ensures.written c.refuse.ensures.quiet

pub returns-in-Err-clause-shelf_quiet : goal.returns-in-Err-clause-shelf_quiet
returns-in-Err-clause-shelf_quiet g c other differs = refused_quiet statuses.BadAnalysis _ c.in-Err.refusal _ _ _ _ c.refuse.ensures.written (c.in-Err.ensures.quiet other) differs

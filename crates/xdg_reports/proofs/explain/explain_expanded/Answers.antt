use Rattle.std.proofs.Common.{◌∙◌, inr, subst}
use Rattle.xdg_inputs.specs.declared.status.Status.TheVariants as statuses
use Rattle.xdg_inputs.proofs.Leaving.{accepted_leaves, stopped_leaves}
use Rattle.xdg_inputs.proofs.Writing.{refused_quiet, refused_wrote}
use Rattle.xdg_io.specs.Rose.{Rose}
use Rattle.xdg_reports.proofs.explain.explain_expanded.Goals as goal

pub returns-in-Ok-clause-leaves : goal.returns-in-Ok-clause-leaves
returns-in-Ok-clause-leaves g c files told = accepted_leaves _ _ _ _ _ c.in-Ok.rules _ _ _ (c.in-Ok.ensures.found files told) (c.explain_ruled.ensures.leaves files (c.load_rules.ensures.kept ∙ told))

pub returns-in-Err-clause-leaves : goal.returns-in-Err-clause-leaves
returns-in-Err-clause-leaves g c files told = stopped_leaves _ _ _ _ _ _ _ _ _ _ _ _ told (λ e. e) (c.in-Err.ensures.refused files) c.refuse.ensures.written

pub returns-in-Ok-clause-shelf_quiet : goal.returns-in-Ok-clause-shelf_quiet
returns-in-Ok-clause-shelf_quiet g c other differs = c.explain_ruled.ensures.shelf_quiet other differs ∙ c.in-Ok.ensures.quiet other

pub returns-in-Err-clause-wrote : goal.returns-in-Err-clause-wrote
returns-in-Err-clause-wrote g c = refused_wrote _ statuses.BadRules _ c.in-Err.refusal _ _ _ _ tt tt tt tt tt c.refuse.ensures.written c.refuse.ensures.quiet

pub returns-in-Err-clause-shelf_quiet : goal.returns-in-Err-clause-shelf_quiet
returns-in-Err-clause-shelf_quiet g c other differs = refused_quiet statuses.BadRules _ c.in-Err.refusal _ _ _ _ c.refuse.ensures.written (c.in-Err.ensures.quiet other) differs

pub returns-in-Ok-clause-read_fault : goal.returns-in-Ok-clause-read_fault
returns-in-Ok-clause-read_fault g c failed =
    inr (subst (λ n. Rose n (g.H.Shelf.faults c.explain_ruled.new.shelf c.args.options.now.analysis)) (c.in-Ok.ensures.quiet c.args.options.now.analysis) (c.explain_ruled.ensures.read_fault failed))

use Rattle.xdg_inputs.specs.declared.status.Status.TheVariants as statuses
use Rattle.xdg_inputs.proofs.Leaving.{accepted_leaves, stopped_leaves}
use Rattle.xdg_inputs.proofs.Writing.{refused_quiet, refused_wrote}
use Rattle.xdg_best.proofs.cheapest.best_expanded.Goals as goal

pub returns-in-Ok-clause-leaves : goal.returns-in-Ok-clause-leaves
returns-in-Ok-clause-leaves g c files content told given =
    accepted_leaves _ _ _ _ _ c.in-Ok.costs _ _ _ (rw c.as_str.ensures at (rw c.types.ensures.same at (rw c.len-entries.ensures.len at (c.in-Ok.ensures.found files told)))) (c.best_costed.ensures.leaves content given)

pub returns-in-Err-clause-leaves : goal.returns-in-Err-clause-leaves
returns-in-Err-clause-leaves g c files content told given =
    stopped_leaves _ _ _ _ _ _ _ _ _ _ _ _ told (λ e. e) (rw c.as_str.ensures at (rw c.types.ensures.same at (rw c.len-entries.ensures.len at (c.in-Err.ensures.refused files)))) c.refuse.ensures.written

pub returns-in-Ok-clause-shelf_quiet : goal.returns-in-Ok-clause-shelf_quiet
returns-in-Ok-clause-shelf_quiet g c other differs = c.in-Ok.ensures.quiet other

pub returns-in-Err-clause-wrote : goal.returns-in-Err-clause-wrote
returns-in-Err-clause-wrote g c = refused_wrote _ statuses.BadCosts _ c.in-Err.refusal _ _ _ _ tt tt tt tt tt c.refuse.ensures.written c.refuse.ensures.quiet

pub returns-in-Err-clause-shelf_quiet : goal.returns-in-Err-clause-shelf_quiet
returns-in-Err-clause-shelf_quiet g c other differs = refused_quiet statuses.BadCosts _ c.in-Err.refusal _ _ _ _ c.refuse.ensures.written (c.in-Err.ensures.quiet other) differs

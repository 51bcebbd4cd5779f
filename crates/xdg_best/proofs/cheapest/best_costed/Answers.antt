use Rattle.xdg_inputs.specs.declared.status.Status.TheVariants as statuses
use Rattle.xdg_inputs.proofs.Leaving.{accepted_leaves, stopped_leaves}
use Rattle.xdg_inputs.proofs.Writing.{refused_quiet, refused_wrote, searched_wrote}
use Rattle.xdg_best.proofs.cheapest.best_costed.Goals as goal

pub returns-in-Ok-clause-leaves : goal.returns-in-Ok-clause-leaves
returns-in-Ok-clause-leaves g c content told = accepted_leaves _ _ _ _ _ c.in-Ok.problem _ _ _ (c.in-Ok.ensures.found content told) c.search.ensures.leaves

pub returns-in-Err-clause-leaves : goal.returns-in-Err-clause-leaves
returns-in-Err-clause-leaves g c content told = stopped_leaves _ _ _ _ _ _ _ _ _ _ _ _ told (λ e. e) (c.in-Err.ensures.refused content) c.refuse.ensures.written

pub returns-in-Ok-clause-wrote : goal.returns-in-Ok-clause-wrote
returns-in-Ok-clause-wrote g c = searched_wrote _ _ _ _ _ _ _ tt tt tt tt c.search.ensures.ends c.search.ensures.leaves c.search.ensures.out_quiet

pub returns-in-Err-clause-wrote : goal.returns-in-Err-clause-wrote
returns-in-Err-clause-wrote g c = refused_wrote _ statuses.BadSentence _ c.in-Err.refusal _ _ _ _ tt tt tt tt tt c.refuse.ensures.written c.refuse.ensures.quiet

pub returns-in-Err-clause-input_quiet : goal.returns-in-Err-clause-input_quiet
returns-in-Err-clause-input_quiet g c differs = refused_quiet statuses.BadSentence _ c.in-Err.refusal _ _ _ _ c.refuse.ensures.written c.in-Err.ensures.quiet differs

use Rattle.xdg_inputs.specs.Loaded.{read_of}
use Rattle.xdg_inputs.specs.declared.status.Status.TheVariants as statuses
use Rattle.xdg_inputs.proofs.Meaning.{meaning_leaves, meaning_refused}
use Rattle.xdg_inputs.proofs.Writing.{refused_wrote}
use Rattle.xdg_best.proofs.cheapest.best_loaded.Goals as goal

pub returns-in-Ok-clause-leaves : goal.returns-in-Ok-clause-leaves
returns-in-Ok-clause-leaves g c files content told given = meaning_leaves (read_of c.args.loaded) _ _ c.in-Ok.expanded _ _ c.in-Ok.ensures.tells c.in-Ok.ensures.only (c.best_expanded.ensures.leaves files content told given)

pub returns-clause-leaves : goal.returns-clause-leaves
returns-clause-leaves g c files content told given = meaning_refused (read_of c.args.loaded) _ _ _ c.in-Err.stop _ _ _ c.deref.ensures.value c.in-Err.ensures.tells c.in-Err.ensures.only c.stopped_in.ensures c.refuse.ensures.written

pub returns-clause-wrote : goal.returns-clause-wrote
returns-clause-wrote g c = refused_wrote _ statuses.BadGrammar _ c.stopped_in.result _ _ _ _ tt tt tt tt tt c.refuse.ensures.written c.refuse.ensures.quiet

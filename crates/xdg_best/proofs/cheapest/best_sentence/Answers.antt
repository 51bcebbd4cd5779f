use Rattle.std.proofs.Common.{◌∙◌}
use Rattle.xdg_best.proofs.Ending.{behind_first}
use Rattle.xdg_inputs.specs.Loaded.{read_of}
use Rattle.xdg_inputs.specs.declared.status.Status.TheVariants as statuses
use Rattle.xdg_inputs.proofs.Leaving.{accepted_leaves, stopped_leaves}
use Rattle.xdg_inputs.proofs.Writing.{refused_quiet, refused_wrote}
use Rattle.xdg_best.proofs.cheapest.best_sentence.Goals as goal

pub returns-in-Ok-clause-leaves : goal.returns-in-Ok-clause-leaves
returns-in-Ok-clause-leaves g c files content told given =
    accepted_leaves _ _ _ _ _ (read_of c.in-Ok.loaded) _ _ _ (rw c.as_str.ensures at (c.in-Ok.ensures.found files told)) (c.best_loaded.ensures.leaves files content (c.load_tree.ensures.kept ∙ told) given)

pub returns-in-Err-clause-leaves : goal.returns-in-Err-clause-leaves
returns-in-Err-clause-leaves g c files content told given = stopped_leaves _ _ _ _ _ _ _ _ _ _ _ _ told (λ e. e) (rw c.as_str.ensures at (c.in-Err.ensures.refused files)) c.refuse.ensures.written

pub returns-in-Ok-clause-read_fault : goal.returns-in-Ok-clause-read_fault
returns-in-Ok-clause-read_fault g c e =
    let costs = c.args.options.now.costs in
    behind_first _ _ (g.H.Shelf.faults c.args.shelf.now costs) (g.H.Shelf.faults c.load_tree.new.shelf costs) (g.H.Shelf.faults c.best_loaded.new.shelf costs) (c.in-Ok.ensures.quiet costs) (c.best_loaded.ensures.read_fault e)

pub returns-in-Ok-clause-shelf_quiet : goal.returns-in-Ok-clause-shelf_quiet
returns-in-Ok-clause-shelf_quiet g c other differs = c.best_loaded.ensures.shelf_quiet other differs ∙ c.in-Ok.ensures.quiet other

pub returns-in-Err-clause-wrote : goal.returns-in-Err-clause-wrote
returns-in-Err-clause-wrote g c = refused_wrote _ statuses.BadText _ c.in-Err.refusal _ _ _ _ tt tt tt tt tt c.refuse.ensures.written c.refuse.ensures.quiet

pub returns-in-Err-clause-shelf_quiet : goal.returns-in-Err-clause-shelf_quiet
returns-in-Err-clause-shelf_quiet g c other differs = refused_quiet statuses.BadText _ c.in-Err.refusal _ _ _ _ c.refuse.ensures.written (c.in-Err.ensures.quiet other) differs

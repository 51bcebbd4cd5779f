use Rattle.xdg_inputs.specs.Loaded.{read_of}
use Rattle.xdg_arrange.proofs.Commanding.{meaning_front, refused_front}
use Rattle.xdg_arrange.proofs.command.arrange_loaded.Goals as goal

pub returns-in-Ok-clause-leaves : goal.returns-in-Ok-clause-leaves
returns-in-Ok-clause-leaves g c content told =
    meaning_front (read_of c.args.loaded) c.args.options.now content c.arrange_expanded.result c.in-Ok.expanded _ _ c.in-Ok.ensures.tells c.in-Ok.ensures.only (c.arrange_expanded.ensures.leaves content told)

pub returns-clause-leaves : goal.returns-clause-leaves
returns-clause-leaves g c content told =
    refused_front (read_of c.args.loaded) c.args.options.now content c.refuse.result _ c.in-Err.stop _ _ _ c.deref.ensures.value c.in-Err.ensures.tells c.in-Err.ensures.only c.stopped_in.ensures c.refuse.ensures.written

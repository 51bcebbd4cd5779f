use Rattle.std.proofs.Common.{◌∙◌, ap}
use Rattle.xdg_inputs.specs.Refusals.{refusal_of}
use Rattle.xdg_inputs.proofs.RulesLoaded.{loaded_accepted, loaded_stops}
use Rattle.xdg_inputs.proofs.rules_files.load_named.Goals as goal

pub returns-in-Ok-rules_in-clause-found : goal.returns-in-Ok-rules_in-clause-found
returns-in-Ok-rules_in-clause-found g c files told =
    loaded_accepted c.args.types.now (g.H.Shelf.files c.args.shelf.now) files c.args.name.now c.in-Ok.bytes.items c.deref.result.now c.in-Ok-rules_in.rules told c.in-Ok.ensures.file c.in-Ok.ensures.within c.deref.ensures.value
    c.in-Ok-rules_in.ensures.tells c.in-Ok-rules_in.ensures.only

pub returns-in-Ok-rules_in-clause-right : goal.returns-in-Ok-rules_in-clause-right
returns-in-Ok-rules_in-clause-right g c = c.in-Ok-rules_in.ensures.tells.right

pub returns-clause-refused : goal.returns-clause-refused
returns-clause-refused g c files =
    loaded_stops c.args.types.now (g.H.Shelf.files c.args.shelf.now) files c.args.name.now c.in-Ok.bytes.items c.deref.result.now (g.H.Shelf.faults c.args.shelf.now c.args.name.now) (g.H.Shelf.faults c.load.new.self c.args.name.now)
    c.in-Err.stop c.stopped_in.result c.in-Ok.ensures.file c.in-Ok.ensures.within c.deref.ensures.value c.in-Err.ensures.tells c.in-Err.ensures.only
    (c.stopped_in.ensures ∙ ap (λ z. refusal_of z c.in-Err.stop) c.deref-in-Err.ensures.value)

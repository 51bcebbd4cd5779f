use Rattle.std.proofs.Common.{◌∙◌, ap}
use Rattle.xdg_inputs.specs.Refusals.{refusal_of}
use Rattle.xdg_best.proofs.Loading.{loaded_accepted, loaded_stops}
use Rattle.xdg_best.proofs.costing.load_costs.Goals as goal

pub returns-in-Ok-costs-clause-found : goal.returns-in-Ok-costs-clause-found
returns-in-Ok-costs-clause-found g c files told =
    loaded_accepted c.args.types.now c.args.entries (g.H.Shelf.files c.args.shelf.now) files c.args.name.now c.in-Ok.bytes.items c.deref.result.now c.in-Ok-costs.costs told c.in-Ok.ensures.file c.in-Ok.ensures.within c.deref.ensures.value
    c.in-Ok-costs.ensures.tells c.in-Ok-costs.ensures.only

pub returns-clause-refused : goal.returns-clause-refused
returns-clause-refused g c files =
    loaded_stops c.args.types.now c.args.entries (g.H.Shelf.files c.args.shelf.now) files c.args.name.now c.in-Ok.bytes.items c.deref.result.now (g.H.Shelf.faults c.args.shelf.now c.args.name.now) (g.H.Shelf.faults c.load.new.self c.args.name.now)
    c.in-Err.stop c.stopped_in.result c.in-Ok.ensures.file c.in-Ok.ensures.within c.deref.ensures.value c.in-Err.ensures.tells c.in-Err.ensures.only
    (c.stopped_in.ensures ∙ ap (λ z. refusal_of z c.in-Err.stop) c.deref-in-Err.ensures.value)

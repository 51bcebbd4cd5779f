use Rattle.std.proofs.Common.{sym, ◌∙◌, ap}
use Rattle.xdg_inputs.specs.Refusals.{refusal_of}
use Rattle.xdg_inputs.proofs.Trees.{loaded_accepted, loaded_stops}
use Rattle.xdg_inputs.proofs.loading.load_tree.Goals as goal

pub returns-in-Ok-read_tree-clause-found : goal.returns-in-Ok-read_tree-clause-found
returns-in-Ok-read_tree-clause-found g c files told =
    loaded_accepted _ files c.args.name.now c.in-Ok.text.items _ c.in-Ok-read_tree.tree told c.in-Ok.ensures.file c.in-Ok.ensures.within c.deref.ensures.value c.in-Ok-read_tree.ensures.tells c.in-Ok-read_tree.ensures.only

pub returns-in-Err-clause-refused : goal.returns-in-Err-clause-refused
returns-in-Err-clause-refused g c files =
    loaded_stops (g.H.Shelf.files c.args.shelf.now) files c.args.name.now c.in-Ok.text.items c.deref.result.now (g.H.Shelf.faults c.args.shelf.now c.args.name.now) (g.H.Shelf.faults c.load.new.self c.args.name.now) c.in-Err.stop c.stopped_in.result
    c.in-Ok.ensures.file c.in-Ok.ensures.within c.deref.ensures.value c.in-Err.ensures.tells c.in-Err.ensures.only (c.stopped_in.ensures ∙ ap (λ z. refusal_of z c.in-Err.stop) (c.deref-in-Err.ensures.value ∙ sym c.deref.ensures.value))

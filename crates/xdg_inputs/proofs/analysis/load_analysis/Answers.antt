use Rattle.std.proofs.Common.{◌∙◌, ap}
use Rattle.xdg_inputs.specs.Refusals.{refusal_of}
use Rattle.xdg_inputs.proofs.Analysing.{entries_of, unread_stops, unjudged_stops, judged_accepted}
use Rattle.xdg_inputs.proofs.analysis.load_analysis.Goals as goal

pub returns-in-Err-clause-refused : goal.returns-in-Err-clause-refused
returns-in-Err-clause-refused g c files =
    unread_stops c.args.expanded.now c.requires.lexicon (g.H.Shelf.files c.args.shelf.now) files c.args.name.now c.in-Ok.bytes.items (g.H.Shelf.faults c.args.shelf.now c.args.name.now) (g.H.Shelf.faults c.load.new.self c.args.name.now)
    c.in-Ok.ensures.file c.in-Ok.ensures.within c.deref.result.now c.in-Err.stop c.stopped_in.result c.deref.ensures.value c.in-Err.ensures.tells c.in-Err.ensures.only (c.stopped_in.ensures ∙ ap (λ z. refusal_of z c.in-Err.stop) c.deref-in-Err.ensures.value)

pub make_judgeable-requires-clause-entries : goal.make_judgeable-requires-clause-entries
make_judgeable-requires-clause-entries g c = entries_of c.deref.result.now c.in-Ok-read.text c.in-Ok-read.ensures.tells

pub returns-in-Ok-make_judgeable-clause-found : goal.returns-in-Ok-make_judgeable-clause-found
returns-in-Ok-make_judgeable-clause-found g c files told =
    judged_accepted c.args.expanded.now c.requires.lexicon (g.H.Shelf.files c.args.shelf.now) files c.args.name.now c.in-Ok.bytes.items (g.H.Shelf.faults c.args.shelf.now c.args.name.now) (g.H.Shelf.faults c.load.new.self c.args.name.now)
    c.in-Ok.ensures.file c.in-Ok.ensures.within c.deref.result.now c.in-Ok-read.text c.in-Ok-make_judgeable.judgeable told c.deref.ensures.value c.in-Ok-read.ensures.tells c.in-Ok-read.ensures.only c.in-Ok-make_judgeable.ensures.judged

pub returns-in-Ok-make_judgeable-clause-made : goal.returns-in-Ok-make_judgeable-clause-made
returns-in-Ok-make_judgeable-clause-made g c = record { words = c.in-Ok-read.text.words; is = c.in-Ok-make_judgeable.ensures.judged.parts_are }

pub returns-clause-refused : goal.returns-clause-refused
returns-clause-refused g c files =
    unjudged_stops c.args.expanded.now c.requires.lexicon (g.H.Shelf.files c.args.shelf.now) files c.args.name.now c.in-Ok.bytes.items (g.H.Shelf.faults c.args.shelf.now c.args.name.now) (g.H.Shelf.faults c.load.new.self c.args.name.now)
    c.in-Ok.ensures.file c.in-Ok.ensures.within c.deref.result.now c.in-Ok-read.text c.in-Err-make_judgeable.stop c.stopped_in-in-Err-make_judgeable.result c.deref.ensures.value c.in-Ok-read.ensures.tells c.in-Ok-read.ensures.only c.in-Err-make_judgeable.ensures.refused
    (c.stopped_in-in-Err-make_judgeable.ensures ∙ ap (λ z. refusal_of z c.in-Err-make_judgeable.stop) c.deref-in-Err-make_judgeable.ensures.value)

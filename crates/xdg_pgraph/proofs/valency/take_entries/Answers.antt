use Rattle.std.proofs.Common.{◌∙◌, ◌==◌, [], ap, get_or, length, sym}
use Rattle.std.proofs.lemmas.Bool.{false≢true}
use Rattle.xdg_pgraph.proofs.Barring.{barred_at_once, has_first}
use Rattle.xdg_pgraph.proofs.valency.take_entries.Goals as goal

pub remove_entries-requires : goal.remove_entries-requires
remove_entries-requires c = has_first c.args.store.now.parts c.args.group.now c.args.bundle c.args.classes.now c.requires.node (λ none. false≢true (sym c.if-is_empty.false ∙ c.is_empty.ensures ∙ ap (λ classes. length classes == 0) none)) c.requires.classes

pub returns-clause-clears : goal.returns-clause-clears
returns-clause-clears c =
    let are = c.requires.classes (λ none. false≢true (sym c.if-is_empty.false ∙ c.is_empty.ensures ∙ ap (λ classes. length classes == 0) none)) in
    barred_at_once c.args.store.now.parts c.args.group.now c.args.bundle c.args.classes.now c.args.least c.args.most c.barred_entries-barred.result c.args.pass.now c.remove_entries.new.self c.args.store.now c.remove_entries.new.store are
    (c.barred_entries-barred.ensures (length (get_or c.args.store.now.parts.candidates c.args.bundle.node [])) are)
    c.remove_entries.ensures.clears

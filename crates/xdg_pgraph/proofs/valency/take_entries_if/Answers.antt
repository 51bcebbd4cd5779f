use Rattle.xdg_pgraph.proofs.Clearing.{none_barred}
use Rattle.xdg_pgraph.proofs.valency.take_entries_if.Goals as goal

pub returns-then-not-wanted-clause-clears : goal.returns-then-not-wanted-clause-clears
returns-then-not-wanted-clause-clears c = none_barred c.args.store.now.parts c.args.group.now c.args.bundle c.args.least c.args.most c.args.pass.now c.args.store.now (c.requires.others c.if-not-wanted.true)

use Rattle.std.proofs.Common.{sym}
use Rattle.xdg_pgraph.proofs.Skipped.{none_enters}
use Rattle.xdg_pgraph.proofs.tree.forbid_mothers.Goals as goal

pub returns-then-not-contains-clause-clears : goal.returns-then-not-contains-clause-clears
returns-then-not-contains-clause-clears c = none_enters c.args.plane.now.dim.0 c.args.root c.args.pass.now c.args.store.now c.args.incoming.now c.requires.incoming (sym c.if-not-contains.ensures.value)

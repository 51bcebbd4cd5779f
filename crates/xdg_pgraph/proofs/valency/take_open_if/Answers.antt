use Rattle.std.proofs.Common.{inr}
use Rattle.std.specs.Prelude.{cond}
use Rattle.xdg_pgraph.proofs.Clearing.{wanted_nowhere, wanted_some}
use Rattle.xdg_pgraph.proofs.valency.take_open_if.Goals as goal

pub returns-then-not-wanted-clause-clears : goal.returns-then-not-wanted-clause-clears
returns-then-not-wanted-clause-clears c = wanted_nowhere c.args.store.now.parts c.args.plane.now.dim.0 c.args.bundle c.args.others (cond c.args.present 0 1) c.args.wanted c.args.pass.now c.args.store.now (inr c.if-not-wanted.true)

pub returns-clause-clears : goal.returns-clause-clears
returns-clause-clears c = wanted_some c.args.store.now.parts c.args.plane.now.dim.0 c.args.bundle c.args.others (cond c.args.present 0 1) c.args.wanted c.args.pass.now c.args.store.now
    c.take_open.new.pass c.take_open.new.store c.if-not-wanted.false c.take_open.ensures.clears

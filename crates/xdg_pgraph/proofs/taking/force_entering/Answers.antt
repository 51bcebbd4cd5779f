use Rattle.xdg_pgraph.proofs.Single.{only_nothing, only_more, only_one, only_place}
use Rattle.xdg_pgraph.proofs.taking.force_entering.Goals as goal

pub force-requires : goal.force-requires
force-requires c = only_place c.args.store.now.parts c.args.store.now.now c.args.plane.now.dim.0 c.args.daughter c.entering.result c.in-One.edge c.in-One.is c.entering.ensures

pub returns-in-Nothing-clause-clears : goal.returns-in-Nothing-clause-clears
returns-in-Nothing-clause-clears c = only_nothing c.args.store.now.parts c.args.store.now.now c.args.plane.now.dim.0 c.args.daughter c.args.pass.now c.args.store.now c.entering.result c.in-Nothing.is c.entering.ensures

pub returns-in-One-clause-clears : goal.returns-in-One-clause-clears
returns-in-One-clause-clears c = only_one c.args.store.now.parts c.args.store.now.now c.args.plane.now.dim.0 c.args.daughter c.args.pass.now c.force.new.self c.args.store.now c.force.new.store c.entering.result c.in-One.edge c.in-One.is c.entering.ensures c.force.ensures.clears

pub returns-in-More-clause-clears : goal.returns-in-More-clause-clears
returns-in-More-clause-clears c = only_more c.args.store.now.parts c.args.store.now.now c.args.plane.now.dim.0 c.args.daughter c.args.pass.now c.args.store.now c.entering.result c.in-More.is c.entering.ensures

use Rattle.xdg_rules.specs.Rules.{must_edges}
use Rattle.xdg_pgraph.proofs.RuledRoots.{no_root_runs, one_root_runs, more_roots_run, root_within}
use Rattle.xdg_pgraph.proofs.tree.for_root.Goals as goal

pub forbid_mothers-requires-clause-root : goal.forbid_mothers-requires-clause-root
forbid_mothers-requires-clause-root c = (
    let must = must_edges c.args.store.now.parts c.args.store.now.now c.args.plane.now.dim.0 in
    root_within c.args.plane.now.nodes must c.find_roots.result c.in-One.root (c.find_roots.ensures must c.requires.incoming.must.once) c.in-One.is)

pub returns-in-Nothing-clause-runs : goal.returns-in-Nothing-clause-runs
returns-in-Nothing-clause-runs c = (
    let must = must_edges c.args.store.now.parts c.args.store.now.now c.args.plane.now.dim.0 in
    no_root_runs c.args.plane.now c.args.pass.now c.fail.new.self c.args.store.now c.args.store.now c.requires.plane c.find_roots.result (c.find_roots.ensures must c.requires.incoming.must.once) c.in-Nothing.is c.fail.ensures.clears)

pub returns-in-One-clause-runs : goal.returns-in-One-clause-runs
returns-in-One-clause-runs c = (
    let must = must_edges c.args.store.now.parts c.args.store.now.now c.args.plane.now.dim.0 in
    one_root_runs c.args.plane.now c.args.pass.now c.forbid_mothers.new.pass c.args.store.now c.forbid_mothers.new.store c.requires.plane c.find_roots.result c.in-One.root (c.find_roots.ensures must c.requires.incoming.must.once) c.in-One.is c.forbid_mothers.ensures.clears)

pub returns-in-More-clause-runs : goal.returns-in-More-clause-runs
returns-in-More-clause-runs c = (
    let must = must_edges c.args.store.now.parts c.args.store.now.now c.args.plane.now.dim.0 in
    more_roots_run c.args.plane.now c.args.pass.now c.args.pass.now c.args.store.now c.args.store.now c.requires.plane c.find_roots.result (c.find_roots.ensures must c.requires.incoming.must.once) c.in-More.is)

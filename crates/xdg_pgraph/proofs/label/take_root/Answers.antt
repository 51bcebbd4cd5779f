use Rattle.xdg_rules.specs.Rules.{TakesForRoot}
use Rattle.xdg_pgraph.proofs.Ruled.{wanted_runs}
use Rattle.xdg_pgraph.proofs.Skipped.{still_of}
use Rattle.xdg_pgraph.proofs.Together.{root_runs}
use Rattle.xdg_pgraph.proofs.label.take_root.Goals as goal

pub returns-clause-runs : goal.returns-clause-runs
returns-clause-runs c = wanted_runs c.args.plane.now.dim.0 c.args.pass.now c.for_others.new.pass c.args.store.now c.for_others.new.store TakesForRoot c.args.wanted c.if-not-wanted.false
    (root_runs c.args.plane.now.dim.0 c.args.pass.now c.for_root.new.pass c.for_others.new.pass c.args.store.now c.for_root.new.store c.for_others.new.store c.for_root.ensures.runs c.for_others.ensures.runs)

pub renewed-second-requires-clause-quiet : goal.renewed-second-requires-clause-quiet
renewed-second-requires-clause-quiet c = still_of c.args.plane.now.dim.0 c.for_root.new.pass c.args.store.now c.for_root.new.store c.of-first.result c.of-first.ensures c.for_root.ensures.parts c.for_root.ensures.quiet

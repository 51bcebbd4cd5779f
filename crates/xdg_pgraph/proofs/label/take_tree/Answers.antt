use Rattle.xdg_pgraph.proofs.Skipped.{still_of}
use Rattle.xdg_pgraph.proofs.Together.{tree_runs}
use Rattle.xdg_pgraph.proofs.label.take_tree.Goals as goal

pub returns-clause-runs : goal.returns-clause-runs
returns-clause-runs c = tree_runs c.args.plane.now.dim.0 c.args.pass.now c.one_mother.new.pass c.for_root.new.pass c.for_others.new.pass c.no_cycle_if_quiet.new.pass c.args.store.now c.one_mother.new.store c.for_root.new.store c.for_others.new.store c.no_cycle_if_quiet.new.store c.one_mother.ensures.runs c.for_root.ensures.runs c.for_others.ensures.runs c.no_cycle_if_quiet.ensures.runs

pub renewed-second-requires-clause-quiet : goal.renewed-second-requires-clause-quiet
renewed-second-requires-clause-quiet c = still_of c.args.plane.now.dim.0 c.one_mother.new.pass c.args.store.now c.one_mother.new.store c.of-first.result c.of-first.ensures c.one_mother.ensures.parts c.one_mother.ensures.quiet

pub renewed-third-requires-clause-quiet : goal.renewed-third-requires-clause-quiet
renewed-third-requires-clause-quiet c = still_of c.args.plane.now.dim.0 c.for_root.new.pass c.one_mother.new.store c.for_root.new.store c.renewed-second.result c.renewed-second.ensures c.for_root.ensures.parts c.for_root.ensures.quiet

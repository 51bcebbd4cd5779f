use Rattle.xdg_pgraph.proofs.Together.{dag_runs}
use Rattle.xdg_pgraph.proofs.label.take_dag.Goals as goal

pub returns-clause-runs : goal.returns-clause-runs
returns-clause-runs c = dag_runs c.args.plane.now.dim.0 c.args.pass.now c.take_root.new.pass c.take_labels.new.pass c.no_cycle_if_quiet.new.pass c.args.store.now c.take_root.new.store c.take_labels.new.store c.no_cycle_if_quiet.new.store c.args.rooted c.args.disjoint c.take_root.ensures.runs c.take_labels.ensures.runs c.no_cycle_if_quiet.ensures.runs

use Rattle.xdg_rules.specs.Rules.{OneLabel}
use Rattle.xdg_pgraph.proofs.Ruled.{wanted_runs}
use Rattle.xdg_pgraph.proofs.label.take_labels.Goals as goal

pub returns-clause-runs : goal.returns-clause-runs
returns-clause-runs c = wanted_runs c.args.plane.now.dim.0 c.args.pass.now c.one_label.new.pass c.args.store.now c.one_label.new.store OneLabel c.args.wanted c.if-not-wanted.false c.one_label.ensures.runs

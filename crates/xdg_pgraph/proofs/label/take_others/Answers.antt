use Rattle.xdg_pgraph.proofs.Together.{others_run, others_settled, others_unwanted}
use Rattle.xdg_pgraph.proofs.label.take_others.Goals as goal

pub returns-then-not-wanted-clause-runs : goal.returns-then-not-wanted-clause-runs
returns-then-not-wanted-clause-runs c = others_unwanted c.args.daughters c.args.wanted c.args.plane.now c.args.pass.now c.args.pass.now c.args.store.now c.args.store.now c.if-not-wanted.true

pub returns-then-are_settled-clause-runs : goal.returns-then-are_settled-clause-runs
returns-then-are_settled-clause-runs c = others_settled c.args.daughters c.args.wanted c.args.plane.now c.args.pass.now c.args.pass.now c.args.store.now c.args.store.now c.requires.plane (c.are_settled.ensures c.if-are_settled.true)

pub returns-clause-runs : goal.returns-clause-runs
returns-clause-runs c = others_run c.args.daughters c.args.wanted c.args.plane.now c.args.pass.now c.for_others.new.pass c.args.store.now c.for_others.new.store c.if-not-wanted.false c.for_others.ensures.runs

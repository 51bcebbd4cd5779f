use Rattle.xdg_store.proofs.Room.{attrs_step}
use Rattle.xdg_store.proofs.start.attr_count.Goals as goal

pub loop-plan-preserved : goal.loop-plan-preserved
loop-plan-preserved c = rw c.len.ensures (attrs_step c.args.nodes c.args.dims.now c.loop-plan.plan-index c.loop-plan.count c.plan-item.result c.requires.nodes c.requires.dims c.loop-plan-test.true c.plan-item.is c.loop-plan.invariant)

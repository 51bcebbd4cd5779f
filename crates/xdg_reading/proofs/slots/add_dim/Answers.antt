use Rattle.xdg_reading.specs.Slots.{node_slots}
use Rattle.xdg_reading.proofs.Turns.{nodes_go}
use Rattle.xdg_reading.proofs.slots.add_dim.Goals as goal

pub loop-node-preserved : goal.loop-node-preserved
loop-node-preserved c = nodes_go (node_slots c.args.plan.now) _ _ _ c.loop-node.node c.args.nodes c.loop-node.invariant c.loop-node-test.true c.in_ok-add_node.ensures

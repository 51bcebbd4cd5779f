use Rattle.xdg_porder.proofs.Ending.{order_ends}
use Rattle.xdg_porder.proofs.Removing.{ready_later}
use Rattle.xdg_porder.proofs.sweep.take_order.Goals as goal

pub take_failing-requires : goal.take_failing-requires
take_failing-requires c = (ready_later c.args.group.now _ c.args.pass.now c.args.store.now c.take_nodes.new.pass c.take_nodes.new.store c.requires.at.0 c.take_nodes.ensures, c.requires.at.1)

pub returns : goal.returns
returns c = order_ends c.args.group.now c.args.pass.now c.args.store.now c.take_nodes.new.pass c.take_nodes.new.store c.take_failing.new.pass c.take_failing.new.store c.requires.at c.take_nodes.ensures c.take_failing.ensures

use Rattle.xdg_porder.proofs.Removing.{node_later}
use Rattle.xdg_porder.proofs.Siding.{node_done}
use Rattle.xdg_porder.proofs.sides.take_node.Goals as goal

pub take_side-requires-2 : goal.take_side-requires-2
take_side-requires-2 c = node_later c.args.group.now c.args.u.0 _ c.args.pass.now c.args.store.now c.take_side.new.pass c.take_side.new.store c.requires c.take_side.ensures

pub returns : goal.returns
returns c = node_done c.args.group.now c.args.u.0 c.args.pass.now c.args.store.now c.take_side.new.pass c.take_side.new.store c.take_side-2.new.pass c.take_side-2.new.store c.take_side.ensures c.take_side-2.ensures

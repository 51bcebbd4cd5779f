use Rattle.xdg_porder.proofs.Removing.{ready_later, own_takes, edges_take, items_gone}
use Rattle.xdg_porder.proofs.taking.take_items.Goals as goal

pub take_own-requires-clause-takes : goal.take_own-requires-clause-takes
take_own-requires-clause-takes c = own_takes c.args.group.now c.args.u.0 c.args.label.0 c.args.refused c.remove-own.new.self c.remove-own.result c.args.pass.now c.args.store.now c.requires.at c.requires.takes c.remove-own.ensures.changed c.remove-own.ensures.members

pub take_edges-requires-clause-ready : goal.take_edges-requires-clause-ready
take_edges-requires-clause-ready c = ready_later c.args.group.now _ c.args.pass.now c.args.store.now c.take_own.new.pass c.take_own.new.store c.requires.at.0.0 c.take_own.ensures

pub take_edges-requires-clause-takes : goal.take_edges-requires-clause-takes
take_edges-requires-clause-takes c = edges_take c.args.group.now c.args.u.0 c.args.label.0 c.args.refused c.remove-own.new.self c.remove-own.result c.args.pass.now c.args.store.now c.requires.at c.requires.takes c.remove-own.ensures.changed c.remove-own.ensures.members c.take_own.new.pass c.take_own.new.store c.take_own.ensures

pub returns : goal.returns
returns c = items_gone c.args.group.now c.args.u.0 c.args.label.0 c.args.refused c.remove-own.new.self c.remove-own.result c.args.pass.now c.args.store.now c.requires.at c.requires.takes c.remove-own.ensures.changed c.remove-own.ensures.members c.take_own.new.pass c.take_own.new.store c.take_own.ensures c.take_edges.new.pass c.take_edges.new.store c.take_edges.ensures

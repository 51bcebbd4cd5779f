use Rattle.xdg_porder.proofs.Siding.{none_reached, reached_gone, reached_takes}
use Rattle.xdg_porder.proofs.sides.take_reached.Goals as goal

pub take_items-requires-clause-takes : goal.take_items-requires-clause-takes
take_items-requires-clause-takes c = reached_takes c.args.group.now c.args.u.0 c.args.label.0 c.args.reached c.may_items.result c.meet-refused.result c.args.pass.now c.args.store.now c.requires.at c.may_items.ensures c.meet-refused.ensures.members c.requires.wrong

pub returns : goal.returns
returns c = reached_gone c.args.group.now c.args.u.0 c.args.label.0 c.args.reached c.may_items.result c.meet-refused.result c.args.pass.now c.args.store.now c.requires.at c.may_items.ensures c.meet-refused.ensures.members c.take_items.new.pass c.take_items.new.store c.take_items.ensures

pub returns-then-is_empty : goal.returns-then-is_empty
returns-then-is_empty c = none_reached c.args.group.now c.args.u.0 c.args.label.0 c.args.reached c.args.pass.now c.args.store.now c.requires.at.0.0.known (λ v. c.is_empty.ensures.0 c.if-is_empty.true v)

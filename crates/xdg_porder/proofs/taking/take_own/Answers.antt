use Rattle.xdg_porder.proofs.Removing.{own_unasked, own_value, own_taken}
use Rattle.xdg_porder.proofs.taking.take_own.Goals as goal

pub returns-then-not-asked : goal.returns-then-not-asked
returns-then-not-asked c = own_unasked c.args.group.now c.args.u.0 c.args.label.0 c.args.asked c.args.pass.now c.args.store.now c.requires.at.0.0.known c.if-not-asked.true

pub remove_attr-requires : goal.remove_attr-requires
remove_attr-requires c = own_value c.args.group.now c.args.u.0 c.args.label.0 c.from.result c.args.store.now c.slot_of-slot.result c.requires.at.0.0.known c.slot_of-slot.ensures.slot c.slot_of-slot.ensures.decision c.from.ensures (c.requires.takes c.if-not-asked.false).0

pub returns : goal.returns
returns c = own_taken c.args.group.now c.args.u.0 c.args.label.0 c.from.result c.args.asked c.args.pass.now c.args.store.now c.slot_of-slot.result c.remove_attr.new.self c.remove_attr.new.store c.requires.at.0.0 c.slot_of-slot.ensures.decision c.from.ensures (c.requires.takes c.if-not-asked.false).1 c.remove_attr.ensures.goes c.remove_attr.ensures.known c.remove_attr.ensures.gone

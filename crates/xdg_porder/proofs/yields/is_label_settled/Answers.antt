use Rattle.xdg_porder.proofs.Settling.{settled_exact}
use Rattle.xdg_porder.proofs.yields.is_label_settled.Goals as goal

pub returns : goal.returns
returns c = settled_exact c.args.store.now.parts c.args.group.now c.args.store.now.now c.args.u.0 c.args.label.0 c.may_follow.result c.must_follow.result c.minus-free.result c.is_empty.result c.may_follow.ensures.exact c.must_follow.ensures.exact c.minus-free.ensures.members c.is_empty.ensures

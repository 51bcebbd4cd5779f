use Rattle.xdg_porder.proofs.Bounding.{crossed_exact}
use Rattle.xdg_porder.proofs.sets.crossed.Goals as goal

pub returns : goal.returns
returns c = crossed_exact c.args.u.0 c.requires c.args.reached c.insert.new.self c.insert.ensures.members c.from.result c.up_to.result c.minus.result c.minus-2.result c.right_of-right.result c.left_of-left.result c.union.result c.meet.result c.from.ensures c.up_to.ensures c.minus.ensures.members c.minus-2.ensures.members c.right_of-right.ensures c.left_of-left.ensures c.union.ensures.members c.meet.ensures.members

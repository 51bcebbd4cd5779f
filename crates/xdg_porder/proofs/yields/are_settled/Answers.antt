use Rattle.xdg_porder.specs.Yields.{IsNodeSettled}
use Rattle.xdg_porder.proofs.yields.are_settled.Goals as goal
use Rattle.xdg_facts.proofs.Numbers.{all_next}

pub loop-u-preserved : goal.loop-u-preserved
loop-u-preserved c = all_next (λ u. IsNodeSettled c.args.store.now.parts c.args.group.now u c.args.store.now.now) c.loop-u.u c.loop-u.invariant (c.is_node_settled.ensures.0 c.if-not-is_node_settled.false)

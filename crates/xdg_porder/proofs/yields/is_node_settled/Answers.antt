use Rattle.xdg_porder.specs.Yields.{IsLabelSettled}
use Rattle.xdg_porder.proofs.yields.is_node_settled.Goals as goal
use Rattle.xdg_facts.proofs.Numbers.{all_next}

pub loop-label-preserved : goal.loop-label-preserved
loop-label-preserved c = all_next (λ label. IsLabelSettled c.args.store.now.parts c.args.group.now c.args.u.0 label c.args.store.now.now) c.loop-label.label c.loop-label.invariant (c.is_label_settled.ensures.0 c.if-not-is_label_settled.false)

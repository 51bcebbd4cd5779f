use Rattle.xdg_typing.proofs.SmallTypes.{weight_next, weight_end}
use Rattle.xdg_typing.proofs.dimensions.weigh_parts.Goals as goal

pub loop-part-preserved : goal.loop-part-preserved
loop-part-preserved c = λ names weighs.
    weight_next names _ _ _ _ _ _ _ c.loop-part-test.true c.part-item.is (c.loop-part.invariant names weighs) (c.weigh_part.ensures names weighs) c.saturating_add-all.ensures

pub returns : goal.returns
returns c = λ names weighs. weight_end names _ _ _ _ c.loop-part-test.false (c.loop-part.invariant names weighs)

use Rattle.xdg_typing.proofs.SmallTypes.{weight_next, weight_end}
use Rattle.xdg_typing.proofs.dimensions.weigh_all.Goals as goal

pub loop-statement-preserved : goal.loop-statement-preserved
loop-statement-preserved c = λ names weighs.
    weight_next names _ _ _ _ _ _ _ c.loop-statement-test.true c.statement-item.is (c.loop-statement.invariant names weighs) (c.weigh_statement.ensures names weighs) c.saturating_add-all.ensures

pub returns : goal.returns
returns c = λ names weighs. weight_end names _ _ _ _ c.loop-statement-test.false (c.loop-statement.invariant names weighs)

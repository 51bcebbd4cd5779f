use Rattle.xdg_types.proofs.SeenTurns.{again_named}
use Rattle.xdg_typing.proofs.repeats.dims_again.Goals as goal

pub loop-statement-preserved : goal.loop-statement-preserved
loop-statement-preserved c =
    again_named _ _ _ _ _ _ _ _ _ _ _ _ c.loop-statement-test.true c.statement-item.is c.in_ok-dim_again.ensures.found c.in_ok-dim_again.ensures.seen c.earlier-found.ensures c.loop-statement.invariant

use Rattle.xdg_types.proofs.SeenTurns.{again_joined}
use Rattle.xdg_typing.proofs.repeats.used_again.Goals as goal

pub loop-statement-preserved : goal.loop-statement-preserved
loop-statement-preserved c =
    again_joined _ _ _ _ _ _ _ _ _ _ _ c.loop-statement-test.true c.statement-item.is c.in_ok-use_again.ensures.found c.in_ok-use_again.ensures.seen c.earlier-found.ensures c.loop-statement.invariant

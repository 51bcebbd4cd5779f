use Rattle.xdg_types.proofs.SeenTurns.{seen_joined}
use Rattle.xdg_principles.proofs.names.used_dims.Goals as goal

pub loop-statement-preserved : goal.loop-statement-preserved
loop-statement-preserved c = seen_joined _ _ _ _ _ _ _ c.loop-statement-test.true c.statement-item.is c.in_ok-add_used.ensures c.loop-statement.invariant

use Rattle.xdg_types.proofs.SeenTurns.{seen_named}
use Rattle.xdg_principles.proofs.names.defined_dims.Goals as goal

pub loop-statement-preserved : goal.loop-statement-preserved
loop-statement-preserved c = seen_named _ _ _ _ _ _ _ _ c.loop-statement-test.true c.statement-item.is c.in_ok-add_defined.ensures c.loop-statement.invariant

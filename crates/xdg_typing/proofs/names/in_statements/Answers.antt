use Rattle.xdg_types.proofs.FaultTurns.{joined_turn}
use Rattle.xdg_typing.proofs.names.in_statements.Goals as goal

pub loop-statement-preserved : goal.loop-statement-preserved
loop-statement-preserved c = joined_turn _ _ _ _ _ _ _ _ _ c.loop-statement-test.true c.statement-item.is c.in_ok-in_statement.ensures c.earlier-found.ensures c.loop-statement.invariant

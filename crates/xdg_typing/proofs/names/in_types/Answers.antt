use Rattle.xdg_types.proofs.FaultTurns.{joined_turn}
use Rattle.xdg_typing.proofs.names.in_types.Goals as goal

pub loop-part-preserved : goal.loop-part-preserved
loop-part-preserved c = joined_turn _ _ _ _ _ _ _ _ _ c.loop-part-test.true c.part-item.is c.in_ok-in_part.ensures c.earlier-found.ensures c.loop-part.invariant

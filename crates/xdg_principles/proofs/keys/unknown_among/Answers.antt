use Rattle.xdg_types.proofs.FaultTurns.{mapped_turn}
use Rattle.xdg_principles.proofs.keys.unknown_among.Goals as goal

pub loop-pair-preserved : goal.loop-pair-preserved
loop-pair-preserved c = mapped_turn _ _ _ _ _ _ _ _ _ c.loop-pair-test.true c.pair-item.is c.unknown.ensures c.earlier-found.ensures c.loop-pair.invariant

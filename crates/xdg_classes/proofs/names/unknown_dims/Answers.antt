use Rattle.xdg_types.proofs.FaultTurns.{mapped_turn}
use Rattle.xdg_classes.proofs.names.unknown_dims.Goals as goal

pub loop-record-preserved : goal.loop-record-preserved
loop-record-preserved c = mapped_turn _ _ _ _ _ _ _ _ _ c.loop-record-test.true c.record-item.is c.unknown.ensures c.earlier-found.ensures c.loop-record.invariant

use Rattle.xdg_types.proofs.FaultTurns.{mapped_turn}
use Rattle.xdg_classes.proofs.uses.unknown_params.Goals as goal

pub loop-pair-preserved : goal.loop-pair-preserved
loop-pair-preserved c = mapped_turn _ _ _ _ _ _ _ _ _ c.loop-pair-test.true c.pair-item.is c.unknown_param.ensures c.earlier-found.ensures c.loop-pair.invariant

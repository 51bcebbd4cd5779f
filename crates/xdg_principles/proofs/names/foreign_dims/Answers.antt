use Rattle.xdg_types.proofs.FaultTurns.{mapped_turn}
use Rattle.xdg_principles.proofs.Forms.{foreign_told}
use Rattle.xdg_principles.proofs.names.foreign_dims.Goals as goal

pub loop-pair-preserved : goal.loop-pair-preserved
loop-pair-preserved c =
    mapped_turn _ _ _ _ _ _ _ _ _ c.loop-pair-test.true c.pair-item.is (foreign_told _ c.pair-item.result.key _ _ _ c.foreign.ensures c.has_dim.ensures c.as_str.ensures) c.earlier-found.ensures c.loop-pair.invariant

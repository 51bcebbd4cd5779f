use Rattle.xdg_types.proofs.FaultTurns.{mapped_turn}
use Rattle.xdg_principles.proofs.arguments.check_uses.Goals as goal

pub loop-one-preserved : goal.loop-one-preserved
loop-one-preserved c = mapped_turn _ _ _ _ _ _ _ _ _ c.loop-one-test.true c.one-item.is c.in_ok-check_use.ensures c.earlier-found.ensures c.loop-one.invariant

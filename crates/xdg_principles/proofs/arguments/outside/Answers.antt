use Rattle.xdg_types.proofs.FaultTurns.{each_turn}
use Rattle.xdg_principles.proofs.arguments.outside.Goals as goal

pub loop-name-preserved : goal.loop-name-preserved
loop-name-preserved c = each_turn _ _ _ _ _ _ _ _ c.loop-name-test.true c.name-item.is c.not_label.ensures c.earlier-found.ensures c.loop-name.invariant

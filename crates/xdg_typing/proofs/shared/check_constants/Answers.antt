use Rattle.xdg_types.proofs.FaultTurns.{each_turn}
use Rattle.xdg_typing.proofs.shared.check_constants.Goals as goal

pub loop-constant-preserved : goal.loop-constant-preserved
loop-constant-preserved c = each_turn _ _ _ _ _ _ _ _ c.loop-constant-test.true c.constant-item.is c.check_constant.ensures c.earlier-found.ensures c.loop-constant.invariant

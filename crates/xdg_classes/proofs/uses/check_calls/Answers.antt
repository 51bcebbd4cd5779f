use Rattle.xdg_types.proofs.FaultTurns.{mapped_turn}
use Rattle.xdg_classes.proofs.uses.check_calls.Goals as goal

pub loop-call-preserved : goal.loop-call-preserved
loop-call-preserved c = λ cs knows. mapped_turn _ _ _ _ _ _ _ _ _ c.loop-call-test.true c.call-item.is (c.in_ok-check_call.ensures cs knows) c.earlier-found.ensures (c.loop-call.invariant cs knows)

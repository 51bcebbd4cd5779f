use Rattle.xdg_classes.proofs.Telling.{some_turn, some_seen}
use Rattle.xdg_classes.proofs.checking.check_calls.Goals as goal

pub loop-call-preserved : goal.loop-call-preserved
loop-call-preserved c = some_turn _ _ _ _ _ _ _ c.loop-call-test.true c.call-item.is c.check_call.ensures c.earlier-found.ensures c.loop-call.invariant

pub returns : goal.returns
returns c = some_seen _ _ _ _ _ c.loop-call-test.false c.loop-call.invariant

use Rattle.xdg_classes.proofs.Growing.{grows_turn, grows_end_seen}
use Rattle.xdg_classes.proofs.collecting.add_calls.Goals as goal

pub loop-call-preserved : goal.loop-call-preserved
loop-call-preserved c = grows_turn _ _ _ _ c.args.wants.now c.loop-call.wants c.add_call.new.wants c.loop-call-test.true c.call-item.is c.in_ok-add_call.ensures c.loop-call.invariant

pub returns : goal.returns
returns c = grows_end_seen _ _ _ _ c.args.wants.now c.loop-call.wants c.loop-call-test.false c.loop-call.invariant

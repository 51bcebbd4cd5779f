use Rattle.xdg_reading.proofs.Tuples.{more_constants}
use Rattle.xdg_reading.proofs.words.constants.Goals as goal

pub loop-preserved : goal.loop-preserved
loop-preserved c = more_constants c.len-end.result c.loop.counter _ _ _ _ _ _ _ c.loop-test.true c.loop.invariant c.in_ok-text.ensures c.if-not-more.false c.in_ok-push.ensures.ok

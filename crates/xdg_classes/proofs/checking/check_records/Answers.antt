use Rattle.xdg_classes.proofs.Telling.{some_turn, some_seen}
use Rattle.xdg_classes.proofs.checking.check_records.Goals as goal

pub loop-one-preserved : goal.loop-one-preserved
loop-one-preserved c = some_turn _ _ _ _ _ _ _ c.loop-one-test.true c.one-item.is c.in_ok-check_record.ensures c.earlier-found.ensures c.loop-one.invariant

pub returns : goal.returns
returns c = some_seen _ _ _ _ _ c.loop-one-test.false c.loop-one.invariant

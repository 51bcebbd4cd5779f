use Rattle.xdg_classes.proofs.Growing.{grows_turn, grows_end_seen}
use Rattle.xdg_classes.proofs.collecting.add_records.Goals as goal

pub loop-one-preserved : goal.loop-one-preserved
loop-one-preserved c = grows_turn _ _ _ _ c.args.wants.now c.loop-one.wants c.add_record.new.wants c.loop-one-test.true c.one-item.is c.in_ok-add_record.ensures c.loop-one.invariant

pub returns : goal.returns
returns c = grows_end_seen _ _ _ _ c.args.wants.now c.loop-one.wants c.loop-one-test.false c.loop-one.invariant

use Rattle.xdg_best.proofs.Comes.{going_none, going_on, gone_wrong, gone_through}
use Rattle.xdg_best.proofs.building.build.Goals as goal

pub loop-statement-init : goal.loop-statement-init
loop-statement-init c = going_none _ _ _ _ c.in_ok-made.ensures

pub add-requires : goal.add-requires
add-requires c = c.loop-statement.invariant.built.count

pub returns-in-Err : goal.returns-in-Err
returns-in-Err c = gone_wrong _ _ _ _ _ c.add.new.self _ c.loop-statement.invariant c.loop-statement-test.true c.statement-item.is c.in-Err.stop c.in-Err.ensures

pub loop-statement-preserved : goal.loop-statement-preserved
loop-statement-preserved c = going_on _ _ _ _ _ _ _ c.loop-statement.invariant c.loop-statement-test.true c.statement-item.is c.in-Ok.ensures

pub of-requires : goal.of-requires
of-requires c = c.loop-statement.invariant.built.kept

pub returns : goal.returns
returns c = gone_through _ _ _ _ _ _ c.loop-statement.invariant c.loop-statement-test.false c.of.ensures.entries c.of.ensures.labels

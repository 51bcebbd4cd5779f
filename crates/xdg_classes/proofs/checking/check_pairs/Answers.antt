use Rattle.xdg_classes.proofs.Telling.{some_turn, some_end}
use Rattle.xdg_classes.proofs.checking.check_pairs.Goals as goal

pub loop-pair-preserved : goal.loop-pair-preserved
loop-pair-preserved c = some_turn _ _ _ _ _ _ _ c.loop-pair-test.true c.pair-item.is c.check_pair.ensures c.earlier-found.ensures c.loop-pair.invariant

pub returns : goal.returns
returns c = some_end _ _ _ _ c.loop-pair-test.false c.loop-pair.invariant

use Rattle.xdg_classes.proofs.Telling.{some_turn, some_seen}
use Rattle.xdg_classes.proofs.checking.check_types.Goals as goal

pub loop-ty-preserved : goal.loop-ty-preserved
loop-ty-preserved c = some_turn _ _ _ _ _ _ _ c.loop-ty-test.true c.ty-item.is c.check_open.ensures c.earlier-found.ensures c.loop-ty.invariant

pub returns : goal.returns
returns c = some_seen _ _ _ _ _ c.loop-ty-test.false c.loop-ty.invariant

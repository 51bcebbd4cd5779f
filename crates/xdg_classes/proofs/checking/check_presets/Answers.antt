use Rattle.xdg_classes.proofs.Telling.{some_turn, some_end}
use Rattle.xdg_classes.proofs.checking.check_presets.Goals as goal

pub loop-param-preserved : goal.loop-param-preserved
loop-param-preserved c = some_turn _ _ _ _ _ _ _ c.loop-param-test.true c.param-item.is c.check_preset.ensures c.earlier-found.ensures c.loop-param.invariant

pub returns : goal.returns
returns c = some_end _ _ _ _ c.loop-param-test.false c.loop-param.invariant

use Rattle.xdg_classes.proofs.Telling.{tells_sum}
use Rattle.xdg_classes.proofs.checking.check_pair.Goals as goal

pub returns : goal.returns
returns c = tells_sum _ _ _ _ _ c.check_feature.ensures c.check_stray.ensures c.earlier.ensures

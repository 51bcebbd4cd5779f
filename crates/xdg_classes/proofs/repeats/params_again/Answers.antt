use Rattle.xdg_types.proofs.SeenTurns.{again_mapped}
use Rattle.xdg_classes.proofs.repeats.params_again.Goals as goal

pub loop-param-preserved : goal.loop-param-preserved
loop-param-preserved c =
    again_mapped _ _ _ _ _ _ _ _ _ _ _ c.loop-param-test.true c.param-item.is c.in_ok-repeated.ensures.found c.in_ok-repeated.ensures.seen c.earlier-found.ensures c.loop-param.invariant

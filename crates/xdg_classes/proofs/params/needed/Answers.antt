use Rattle.xdg_types.proofs.SeenTurns.{seen_joined}
use Rattle.xdg_classes.proofs.params.needed.Goals as goal

pub loop-param-preserved : goal.loop-param-preserved
loop-param-preserved c = (
  c.in_ok-add_needed.ensures.made c.loop-param.invariant.0,
  seen_joined _ _ _ _ _ _ _ c.loop-param-test.true c.param-item.is c.in_ok-add_needed.ensures.seen c.loop-param.invariant.1,
)

use Rattle.xdg_classes.proofs.Growing.{grows_turn}
use Rattle.xdg_classes.proofs.collecting.add_args.Goals as goal

pub loop-arg-preserved : goal.loop-arg-preserved
loop-arg-preserved c = grows_turn _ _ _ _ c.args.wants.now c.loop-arg.wants c.add_arg.new.wants c.loop-arg-test.true c.arg-item.is c.in_ok-add_arg.ensures c.loop-arg.invariant

use Rattle.xdg_check.proofs.Gathered.{class_turn}
use Rattle.xdg_check.proofs.making.make_classes.Goals as goal

pub loop-class-preserved : goal.loop-class-preserved
loop-class-preserved c = λ named.
    class_turn _ c.definitions-class-items.result.now c.loop-class.class-index c.class-item.result c.loop-class.made.items c.push.new.self.items c.in_ok-make_class.field-0
    c.loop-class-test.true c.class-item.is (c.loop-class.invariant named) (c.in_ok-make_class.ensures named) c.in_ok-push.ensures.items

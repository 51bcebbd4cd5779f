use Rattle.xdg_types.proofs.Made.{name_added}
use Rattle.xdg_check.specs.declared.checked.Class.{Class}
use Rattle.xdg_check.proofs.making.index_names.Goals as goal

pub loop-class-preserved : goal.loop-class-preserved
loop-class-preserved c = λ apart.
    name_added (λ (class : Class). class.name) c.args.classes.now c.loop-class.class-index c.class-item.result _ _ _ _ apart
    c.loop-class-test.true c.class-item.is c.as_str.ensures c.in_ok-add.ensures.new c.in_ok-add.ensures.ok (c.loop-class.invariant apart)

use Rattle.std.proofs.Common.{◌∷◌, [], subst}
use Rattle.xdg_domain.specs.Shapes.{shape}
use Rattle.xdg_classes.specs.Given as spec
use Rattle.xdg_classes.proofs.Growing.{grows_turn, grows_each, want}
use Rattle.xdg_classes.proofs.collecting.add_all.Goals as goal

pub loop-one-preserved : goal.loop-one-preserved
loop-one-preserved c = grows_turn (λ found. want found ∷ []) c.args.found.now c.loop-one.one-index c.one-item.result c.args.wants.now c.loop-one.wants c.add.new.self c.loop-one-test.true c.one-item.is (subst (λ t. spec.Grows c.loop-one.wants c.add.new.self ((t, shape c.one-item.result.ty.now) ∷ [])) c.as_str.ensures c.in_ok-add.ensures) c.loop-one.invariant

pub returns : goal.returns
returns c = grows_each want c.args.found.now c.loop-one.one-index c.args.wants.now c.loop-one.wants c.loop-one-test.false c.loop-one.invariant

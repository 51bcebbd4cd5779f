use Rattle.std.proofs.Common.{rules}
use Rattle.xdg_domain.specs.Shapes.{shape}
use Rattle.xdg_terms.specs.Wanted.{params_in}
use Rattle.xdg_classes.proofs.Growing.{grows_as, grows_turn, grows_end_seen}
use Rattle.xdg_classes.proofs.collecting.add_types.Goals as goal

pub loop-ty-preserved : goal.loop-ty-preserved
loop-ty-preserved c = grows_turn (λ ty. params_in c.args.params.now (shape ty.now) c.args.term.now) c.args.types.now c.loop-ty.ty-index c.ty-item.result c.args.wants.now c.loop-ty.wants c.add_all.new.wants c.loop-ty-test.true c.ty-item.is (grows_as c.loop-ty.wants c.add_all.new.wants _ _ (search rules) c.in_ok-add_all.ensures) c.loop-ty.invariant

pub returns : goal.returns
returns c = grows_end_seen (λ ty. shape ty.now) (λ s. params_in c.args.params.now s c.args.term.now) c.args.types.now c.loop-ty.ty-index c.args.wants.now c.loop-ty.wants c.loop-ty-test.false c.loop-ty.invariant

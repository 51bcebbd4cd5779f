use Rattle.std.proofs.Common.{subst}
use Rattle.xdg_classes.specs.Given as spec
use Rattle.xdg_classes.specs.Collected as all
use Rattle.xdg_classes.proofs.Growing.{grows_turn}
use Rattle.xdg_classes.proofs.collecting.add_record.Goals as goal

pub loop-pair-preserved : goal.loop-pair-preserved
loop-pair-preserved c =
    let g = all.pair_wants (all.feature_of c.args.features.now) c.args.params.now in
    grows_turn (g c.args.one.now.dim.now.text) c.args.one.now.pairs.now c.loop-pair.pair-index c.pair-item.result c.args.wants.now c.loop-pair.wants c.add_pair.new.wants c.loop-pair-test.true c.pair-item.is
    (subst (λ d. spec.Grows c.loop-pair.wants c.add_pair.new.wants (g d c.pair-item.result)) c.as_str.ensures c.in_ok-add_pair.ensures) c.loop-pair.invariant

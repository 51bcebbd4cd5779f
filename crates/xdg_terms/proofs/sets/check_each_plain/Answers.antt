use Rattle.xdg_terms.specs.Faults as spec
use Rattle.xdg_terms.proofs.Loops.{each_turn}
use Rattle.xdg_terms.proofs.sets.check_each_plain.Goals as goal

pub loop-elem-preserved : goal.loop-elem-preserved
loop-elem-preserved c = each_turn (spec.plain_missing c.args.texts.now) _ _ _ _ _ _ _ c.loop-elem-test.true c.elem-item.is c.check_plain.ensures c.earlier-found.ensures c.loop-elem.invariant

use Rattle.xdg_terms.proofs.Loops.{twice_turn}
use Rattle.xdg_terms.proofs.keys.check_twice.Goals as goal

pub loop-at-preserved : goal.loop-at-preserved
loop-at-preserved c = twice_turn c.args.elems.now c.loop-at.at c.index-elems-at.result _ _ _ _ c.loop-at-test.true c.index-elems-at.is c.check_key_again.ensures c.earlier-found.ensures c.loop-at.invariant

use Rattle.xdg_formula.proofs.Turns.{names_turn}
use Rattle.xdg_formula.proofs.checking.check_names.Goals as goal

pub loop-at-preserved : goal.loop-at-preserved
loop-at-preserved c = names_turn c.args.rules.now c.loop-at.at c.index-rules-at.result _ _ _ _ c.loop-at-test.true c.index-rules-at.is c.check_name.ensures c.earlier-found.ensures c.loop-at.invariant

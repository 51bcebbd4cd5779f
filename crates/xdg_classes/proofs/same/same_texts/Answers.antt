use Rattle.std.proofs.Common.{rules}
use Rattle.xdg_classes.proofs.same.same_texts.Goals as goal
use Rattle.xdg_facts.proofs.Fronts.{same_text_turn}

pub loop-at-preserved : goal.loop-at-preserved
loop-at-preserved c = same_text_turn c.args.one.now c.args.other.now c.loop-at.at c.index-one-at.result c.index-other-at.result c.loop-at-test.true (search rules) c.index-one-at.is c.index-other-at.is (search rules) c.loop-at.invariant

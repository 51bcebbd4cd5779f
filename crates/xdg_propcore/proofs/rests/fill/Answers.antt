use Rattle.std.proofs.Common.{◌∙◌, Some, arith, length-set}
use Rattle.xdg_propcore.proofs.rests.fill.Goals as goal
use Rattle.xdg_facts.proofs.Lists.{filled_more}

pub loop-at-preserved : goal.loop-at-preserved
loop-at-preserved c = record {
  length = length-set c.loop-at.marks.items c.loop-at.at (Some c.args.mark) ∙ c.loop-at.invariant.length;
  each = filled_more c.loop-at.marks.items (Some c.args.mark) c.loop-at.at (let t = c.loop-at-test.true in let s = c.loop-at.invariant.length in omega (arith, t, s)) c.loop-at.invariant.each;
}

use Rattle.std.proofs.Common.{◌∙◌, arith, length-set}
use Rattle.xdg_typing.proofs.Heading.{heads_step}
use Rattle.xdg_typing.proofs.leading.heads.Goals as goal

pub loop-i-preserved : goal.loop-i-preserved
loop-i-preserved c = (
  length-set _ _ _ ∙ c.loop-i.invariant.0,
  heads_step c.args.known.now c.args.bodies.now c.loop-i.heads.items c.as_slice.result.now c.args.order.now c.loop-i.i c.index-bodies-number.result c.next.result c.requires.first c.requires.within c.loop-i-test.true c.loop-i.invariant.0 c.loop-i.invariant.1
      c.index-bodies-number.is c.as_slice.ensures.value c.next.ensures,
)

pub returns-clause-right : goal.returns-clause-right
returns-clause-right c = λ names agrees j below. c.loop-i.invariant.1 names agrees j (omega (arith, below, c.loop-i-test.false))

use Rattle.std.proofs.Common.{◌∙◌, Bor, ap, sym, arith, length-set}
use Rattle.xdg_types.specs.Written.{tree}
use Rattle.xdg_types.specs.Parts.{TypeTerm}
use Rattle.xdg_typing.specs.Weights.{weighed, named_weight}
use Rattle.xdg_typing.proofs.Weighing.{weights_step}
use Rattle.xdg_typing.proofs.weights.weights.Goals as goal

pub loop-i-preserved : goal.loop-i-preserved
loop-i-preserved c = (
  length-set _ _ _ ∙ c.loop-i.invariant.0,
  weights_step c.args.known.now c.args.bodies.now c.loop-i.weights.items c.as_slice.result.now c.args.order.now c.loop-i.i c.index-bodies-number.result c.weigh.result c.requires.first c.requires.within c.loop-i-test.true c.loop-i.invariant.0 c.loop-i.invariant.1
      c.index-bodies-number.is c.as_slice.ensures.value
      (c.weigh.ensures ∙ ap (λ (b : Bor TypeTerm). weighed (named_weight c.args.known.now c.as_slice.result.now) (tree b.now.kind)) (sym c.index-bodies-number.is)),
)

pub returns : goal.returns
returns c = λ names agrees j below. c.loop-i.invariant.1 names agrees j (omega (arith, below, c.loop-i-test.false))

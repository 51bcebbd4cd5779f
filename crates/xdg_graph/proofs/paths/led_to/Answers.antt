use Rattle.std.proofs.Common.{arith}
use Rattle.xdg_graph.proofs.Widening.{led_end, led_next, led_start}
use Rattle.xdg_graph.proofs.paths.led_to.Goals as goal

pub loop-at-init : goal.loop-at-init
loop-at-init c = led_start c.args.table.now c.empty-ends.result

pub loop-at-preserved : goal.loop-at-preserved
loop-at-preserved c = led_next c.args.table.now c.loop-at.at c.loop-at.ends c.set_at.result c.union-ends.result c.set_at.ensures c.union-ends.ensures.members c.loop-at.invariant

pub returns : goal.returns
returns c = led_end c.args.table.now c.loop-at.at c.args.size c.loop-at.ends (let t = c.loop-at-test.false in omega (arith, t)) c.requires.rest c.loop-at.invariant

use Rattle.std.proofs.Common.{sym}
use Rattle.xdg_nodeset.proofs.Closures.{closure_more, closure_start}
use Rattle.xdg_graph.proofs.Widening.{closure_skip, led_widened}
use Rattle.xdg_graph.proofs.paths.close.Goals as goal

pub loop-middle-init : goal.loop-middle-init
loop-middle-init c = (closure_start c.args.table.now, c.requires.rest, c.led_to-ends.ensures)

pub loop-middle-preserved-then-not-contains : goal.loop-middle-preserved-then-not-contains
loop-middle-preserved-then-not-contains c = (
  closure_skip c.loop-middle.middle c.args.table.now c.loop-middle.table c.led_to-ends.result (sym c.if-not-contains.ensures.value) c.loop-middle.invariant.2 c.loop-middle.invariant.0,
  c.loop-middle.invariant.1,
  c.loop-middle.invariant.2,
)

pub loop-middle-preserved : goal.loop-middle-preserved
loop-middle-preserved c = (
  closure_more c.loop-middle.middle c.args.table.now c.loop-middle.table c.widen.new.table c.loop-middle.invariant.0 c.widen.ensures.each,
  c.widen.ensures.rest,
  led_widened c.loop-middle.table c.widen.new.table c.loop-middle.middle c.led_to-ends.result c.widen.ensures.each c.loop-middle.invariant.2,
)

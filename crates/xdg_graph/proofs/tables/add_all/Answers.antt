use Rattle.xdg_graph.proofs.Adding.{adds_end, adds_next, adds_start}
use Rattle.xdg_graph.proofs.Ahead.{ahead_next, ahead_small, ahead_start}
use Rattle.xdg_graph.proofs.tables.add_all.Goals as goal

pub loop-mother-init : goal.loop-mother-init
loop-mother-init c = (
  tt,
  tt,
  ahead_start c.args.mothers c.iter-mother-items.result c.into_iter-mother-iterator.result c.iter-mother-items.ensures.nodes c.iter-mother-items.ensures.value c.into_iter-mother-iterator.ensures.into_iter_gives,
  adds_start c.args.mothers c.iter-mother-items.result c.into_iter-mother-iterator.result c.args.daughter.0 c.args.table.now c.iter-mother-items.ensures.value c.into_iter-mother-iterator.ensures.into_iter_gives,
)

pub add-requires-clause-from : goal.add-requires-clause-from
add-requires-clause-from c = ahead_small c.loop-mother.mother-iterator c.next.new.self c.in-Some.mother.0 c.in-Some.ensures.steps c.loop-mother.invariant.2

pub loop-mother-preserved : goal.loop-mother-preserved
loop-mother-preserved c = (
  tt,
  tt,
  ahead_next c.loop-mother.mother-iterator c.next.new.self c.in-Some.mother.0 c.in-Some.ensures.steps c.loop-mother.invariant.2,
  adds_next c.args.mothers c.loop-mother.mother-iterator c.next.new.self c.in-Some.mother.0 c.args.daughter.0 c.args.table.now c.loop-mother.table c.add.new.table c.in-Some.ensures.steps c.add.ensures c.loop-mother.invariant.3,
)

pub returns : goal.returns
returns c = adds_end c.args.mothers c.loop-mother.mother-iterator c.args.daughter.0 c.args.table.now c.loop-mother.table c.in-None.ensures.steps.0 c.loop-mother.invariant.3

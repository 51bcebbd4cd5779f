use Rattle.std.proofs.Common.{arith}
use Rattle.xdg_graph.proofs.ByRow.{rows_end, rows_next, rows_start}
use Rattle.xdg_graph.proofs.upward.mothers_in_some.Goals as goal

pub loop-row-init : goal.loop-row-init
loop-row-init c = rows_start c.args.which c.args.rows.now c.empty-mothers.result c.empty-mothers.ensures.value

pub loop-row-preserved : goal.loop-row-preserved
loop-row-preserved c = rows_next c.args.which c.args.rows.now c.loop-row.row-index c.row-item.result c.loop-row.mothers c.mothers_in.result c.union-mothers.result c.loop-row-test.true c.row-item.is c.mothers_in.ensures c.union-mothers.ensures.members c.loop-row.invariant

pub returns : goal.returns
returns c = rows_end c.args.which c.args.rows.now c.loop-row.row-index c.loop-row.mothers (let t = c.loop-row-test.false in omega (arith, t)) c.loop-row.invariant

use Rattle.std.proofs.Common.{arith}
use Rattle.xdg_graph.specs.declared.which.Which.TheVariants as whichs
use Rattle.xdg_graph.proofs.Noting.{noted_start, noted_end}
use Rattle.xdg_graph.proofs.tables.note_may.Goals as goal

pub loop-mother-init : goal.loop-mother-init
loop-mother-init c = noted_start _ c.args.table.now c.requires.blank

pub returns-clause-exact : goal.returns-clause-exact
returns-clause-exact c = noted_end whichs.May c.args.store.now.parts c.args.store.now.now c.args.dim.0 c.loop-mother.mother c.loop-mother.table c.node_count-mother-end.ensures.known.is_box (let n = c.loop-mother-test.false in let e = c.node_count-mother-end.ensures.size in omega (arith, n, e)) c.loop-mother.invariant

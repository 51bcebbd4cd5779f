use Rattle.std.proofs.Common.{arith}
use Rattle.xdg_graph.proofs.Edges.{below_all}
use Rattle.xdg_graph.proofs.tables.daughters_of.Goals as goal

pub returns-clause-exact : goal.returns-clause-exact
returns-clause-exact c = below_all c.args.which c.args.store.now.parts c.args.store.now.now c.args.dim.0 c.loop-label.label c.args.mother.0 c.loop-label.daughters c.labels_of-label-end.ensures.known.is_box (let n = c.loop-label-test.false in let e = c.labels_of-label-end.ensures.count in omega (arith, n, e)) c.loop-label.invariant

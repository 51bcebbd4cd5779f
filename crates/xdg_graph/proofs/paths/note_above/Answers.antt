use Rattle.std.proofs.Common.{arith}
use Rattle.xdg_graph.proofs.Noting.{closure_exact}
use Rattle.xdg_graph.proofs.paths.note_above.Goals as goal

pub returns-clause-exact : goal.returns-clause-exact
returns-clause-exact c = closure_exact c.args.which c.args.store.now.parts c.args.store.now.now c.args.dim.0 c.node_count.result c.note_daughters.new.table c.close.new.table c.note_daughters.ensures.known.is_box (let e = c.node_count.ensures.size in omega (arith, e)) c.note_daughters.ensures.exact c.close.ensures

use Rattle.std.proofs.Common.{arith}
use Rattle.xdg_formula_value.proofs.Reached.{next_beyond}
use Rattle.xdg_formula_value.proofs.reach.next_to.Goals as goal

pub returns-then-node-node_count : goal.returns-then-node-node_count
returns-then-node-node_count c = next_beyond c.args.which c.args.store.now.parts c.args.store.now.now c.args.dim.0 c.node_count.ensures.known.is_box c.args.way c.args.node.0 c.empty.result (let past = c.if-node-node_count.true in let size = c.node_count.ensures.size in omega (arith, past, size)) c.empty.ensures.value

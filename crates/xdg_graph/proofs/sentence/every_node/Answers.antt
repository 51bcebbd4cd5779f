use Rattle.std.proofs.Common.{arith}
use Rattle.xdg_problem.specs.Places.{nodes}
use Rattle.xdg_graph.proofs.UpTo.{every_up_to}
use Rattle.xdg_graph.proofs.sentence.every_node.Goals as goal

pub returns-clause-all : goal.returns-clause-all
returns-clause-all c = every_up_to (nodes c.args.store.now.parts) _ c.up_to.result (let some = c.node_count.ensures.known.problem.some in let size = c.node_count.ensures.size in omega (arith, some, size)) c.up_to.ensures

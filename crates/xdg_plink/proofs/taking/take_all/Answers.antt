use Rattle.std.proofs.Common.{arith}
use Rattle.xdg_problem.specs.Places.{nodes}
use Rattle.xdg_plink.proofs.Sweeping.{below_later, ready_later}
use Rattle.xdg_problem.specs.Arguments.{first_dim}
use Rattle.xdg_graph.specs.Edges.{edge_labels}
use Rattle.xdg_propcore.proofs.Turns.{below_end, below_next}
use Rattle.xdg_plink.specs.Steps.{AreLabelsDone}
use Rattle.xdg_plink.proofs.taking.take_all.Goals as goal

pub take_node-requires-clause-at : goal.take_node-requires-clause-at
take_node-requires-clause-at c =
    let a = c.loop-node.invariant in
    (ready_later c.args.group.now c.args.table.now _ c.args.pass.now c.args.store.now c.loop-node.pass c.loop-node.store c.requires.ready a, below_later c.args.group.now _ nodes c.loop-node.node c.args.pass.now c.args.store.now c.loop-node.pass c.loop-node.store (let e = c.node_count-node-end.ensures.size in let t = c.loop-node-test.true in omega (arith, e, t)) a)

pub loop-node-preserved : goal.loop-node-preserved
loop-node-preserved c = below_next c.args.group.now (λ parts u. AreLabelsDone parts c.args.group.now c.args.table.now u (edge_labels parts (first_dim c.args.group.now)))
    c.loop-node.node c.args.pass.now c.args.store.now c.loop-node.pass c.loop-node.store c.take_node.new.pass c.take_node.new.store c.loop-node.invariant c.take_node.ensures

pub returns : goal.returns
returns c = below_end c.args.group.now (λ parts u. AreLabelsDone parts c.args.group.now c.args.table.now u (edge_labels parts (first_dim c.args.group.now)))
    c.loop-node.node (nodes c.args.store.now.parts) c.args.pass.now c.args.store.now c.loop-node.pass c.loop-node.store
    (let e = c.node_count-node-end.ensures.size in let t = c.loop-node-test.false in omega (arith, e, t)) c.loop-node.invariant

use Rattle.std.proofs.Common.{arith}
use Rattle.xdg_problem.specs.Arguments.{first_dim}
use Rattle.xdg_problem.specs.Places.{nodes}
use Rattle.xdg_graph.specs.Edges.{edge_labels}
use Rattle.xdg_plink.proofs.Sweeping.{below_later, ready_later}
use Rattle.xdg_propcore.proofs.Turns.{below_next}
use Rattle.xdg_plink.specs.Steps.{IsLabelDone}
use Rattle.xdg_plink.proofs.taking.take_node.Goals as goal

pub take_label-requires-clause-at : goal.take_label-requires-clause-at
take_label-requires-clause-at c =
    let a = c.loop-label.invariant in
    ((ready_later c.args.group.now c.args.table.now _ c.args.pass.now c.args.store.now c.loop-label.pass c.loop-label.store c.requires.at.0 a, below_later c.args.group.now _ nodes c.args.node.0 c.args.pass.now c.args.store.now c.loop-label.pass c.loop-label.store c.requires.at.1 a), below_later c.args.group.now _ (λ parts. edge_labels parts (first_dim c.args.group.now)) c.loop-label.label c.args.pass.now c.args.store.now c.loop-label.pass c.loop-label.store (let e = c.first_labels-label-end.ensures in let t = c.loop-label-test.true in omega (arith, e, t)) a)

pub loop-label-preserved : goal.loop-label-preserved
loop-label-preserved c = below_next c.args.group.now (λ parts label. IsLabelDone parts c.args.group.now c.args.table.now c.args.node.0 label)
    c.loop-label.label c.args.pass.now c.args.store.now c.loop-label.pass c.loop-label.store c.take_label.new.pass c.take_label.new.store c.loop-label.invariant c.take_label.ensures

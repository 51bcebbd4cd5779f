use Rattle.std.proofs.Common.{arith}
use Rattle.xdg_problem.specs.Arguments.{first_dim}
use Rattle.xdg_graph.specs.Edges.{edge_labels}
use Rattle.xdg_porder.specs.Across.{IsLabelDone}
use Rattle.xdg_porder.proofs.Crossing.{across_done, across_later, across_none, across_takes}
use Rattle.xdg_propcore.proofs.Turns.{below_next, below_end}
use Rattle.xdg_porder.proofs.across.take_across_node.Goals as goal

pub returns-then-is_empty : goal.returns-then-is_empty
returns-then-is_empty c = across_none c.args.group.now c.args.table.now c.args.u.0 c.args.store.now c.requires c.set_at.result c.crossed-across.result c.set_at.ensures c.crossed-across.ensures (c.is_empty.ensures.0 c.if-is_empty.true) c.args.pass.now

pub take_edges-requires-clause-ready : goal.take_edges-requires-clause-ready
take_edges-requires-clause-ready c = (across_later c.args.group.now c.args.table.now c.args.u.0 _ c.args.pass.now c.args.store.now c.loop-label.pass c.loop-label.store c.requires c.loop-label.invariant).0.ready

pub take_edges-requires-clause-takes : goal.take_edges-requires-clause-takes
take_edges-requires-clause-takes c =
    let at = across_later c.args.group.now c.args.table.now c.args.u.0 _ c.args.pass.now c.args.store.now c.loop-label.pass c.loop-label.store c.requires c.loop-label.invariant in
    across_takes c.args.group.now c.args.table.now c.args.u.0 c.loop-label.store at c.set_at.result c.crossed-across.result c.set_at.ensures c.crossed-across.ensures c.loop-label.label c.meet-refused.result c.may_follow.result c.may_follow.ensures.exact c.meet-refused.ensures.members

pub loop-label-preserved : goal.loop-label-preserved
loop-label-preserved c =
    let at = across_later c.args.group.now c.args.table.now c.args.u.0 _ c.args.pass.now c.args.store.now c.loop-label.pass c.loop-label.store c.requires c.loop-label.invariant in
    below_next c.args.group.now (λ parts label. IsLabelDone parts c.args.group.now c.args.table.now c.args.u.0 label) c.loop-label.label c.args.pass.now c.args.store.now c.loop-label.pass c.loop-label.store c.take_edges.new.pass c.take_edges.new.store c.loop-label.invariant
    (across_done c.args.group.now c.args.table.now c.args.u.0 c.loop-label.store at c.set_at.result c.crossed-across.result c.set_at.ensures c.crossed-across.ensures c.loop-label.label c.meet-refused.result c.may_follow.result c.may_follow.ensures.exact c.meet-refused.ensures.members c.loop-label.pass c.take_edges.new.pass c.take_edges.new.store c.take_edges.ensures)

pub returns : goal.returns
returns c = below_end c.args.group.now (λ parts label. IsLabelDone parts c.args.group.now c.args.table.now c.args.u.0 label) c.loop-label.label (edge_labels c.args.store.now.parts (first_dim c.args.group.now)) c.args.pass.now c.args.store.now c.loop-label.pass c.loop-label.store (let l = c.loop-label-test.false in let e = c.label_count-label-end.ensures.count in omega (arith, l, e)) c.loop-label.invariant

use Rattle.std.proofs.Common.{arith}
use Rattle.xdg_graph.specs.Edges.{edge_labels}
use Rattle.xdg_propcore.proofs.Sweeping.{group_stays}
use Rattle.xdg_engine.specs.Freeing.{OfLabels}
use Rattle.xdg_propcore.proofs.Turns.{below_end, below_next, below_skip}
use Rattle.xdg_engine.proofs.Freed.{AtLabel, done_label, free_later, not_dear}
use Rattle.xdg_engine.proofs.cost_prop.forbid_on.Goals as goal

pub loop-label-preserved-then-cost-room : goal.loop-label-preserved-then-cost-room
loop-label-preserved-then-cost-room c =
    below_skip c.args.group.now (AtLabel c.args.row.now c.args.room c.args.dim.0) c.loop-label.label c.args.pass.now c.args.store.now c.loop-label.pass c.loop-label.store c.loop-label.invariant (not_dear c.args.row.now c.args.room c.args.dim.0 c.loop-label.label c.args.store.now.parts c.loop-label.store.now (let t = c.if-cost-room.true in omega (arith, t)))

pub forbid_label-requires-clause-group : goal.forbid_label-requires-clause-group
forbid_label-requires-clause-group c = group_stays c.args.group.now c.args.pass.now c.args.store.now c.loop-label.pass c.loop-label.store c.loop-label.invariant.goes c.loop-label.invariant.known c.requires.group

pub forbid_label-requires-clause-takes : goal.forbid_label-requires-clause-takes
forbid_label-requires-clause-takes c = free_later c.args.group.now c.args.dim.0 c.loop-label.label (OfLabels c.args.row.now c.args.room c.args.dim.0 c.loop-label.label c.args.store.now.parts) c.args.pass.now c.args.store.now c.loop-label.pass c.loop-label.store c.loop-label.invariant (c.requires.takes c.loop-label.label (let t = c.loop-label-test.true in let e = c.labels_of-label-end.ensures.count in omega (arith, t, e)) (let t = c.if-cost-room.false in omega (arith, t)))

pub loop-label-preserved : goal.loop-label-preserved
loop-label-preserved c =
    below_next c.args.group.now (AtLabel c.args.row.now c.args.room c.args.dim.0) c.loop-label.label c.args.pass.now c.args.store.now c.loop-label.pass c.loop-label.store c.forbid_label.new.pass c.forbid_label.new.store c.loop-label.invariant (done_label c.args.group.now c.args.row.now c.args.room c.args.dim.0 c.loop-label.label c.loop-label.pass c.loop-label.store c.forbid_label.new.pass c.forbid_label.new.store c.forbid_label.ensures)

pub returns : goal.returns
returns c = below_end c.args.group.now (AtLabel c.args.row.now c.args.room c.args.dim.0) c.loop-label.label (edge_labels c.args.store.now.parts c.args.dim.0) c.args.pass.now c.args.store.now c.loop-label.pass c.loop-label.store (let t = c.loop-label-test.false in let e = c.labels_of-label-end.ensures.count in omega (arith, t, e)) c.loop-label.invariant

use Rattle.std.proofs.Common.{◌<◌, arith, subst, sym}
use Rattle.xdg_problem.specs.declared.parts.Parts.{Parts}
use Rattle.xdg_problem.specs.Arguments.{first_dim}
use Rattle.xdg_problem.specs.Places.{nodes}
use Rattle.xdg_graph.specs.Edges.{edge_labels}
use Rattle.xdg_porder.specs.Across.{AreLabelsDone}
use Rattle.xdg_porder.proofs.Crossing.{tabled_later}
use Rattle.xdg_propcore.proofs.Turns.{below_next, below_end}
use Rattle.xdg_porder.proofs.across.take_across.Goals as goal

pub take_across_node-requires : goal.take_across_node-requires
take_across_node-requires c = (tabled_later c.args.group.now c.args.table.now _ c.args.pass.now c.args.store.now c.loop-u.pass c.loop-u.store c.requires c.loop-u.invariant, subst (λ (parts : Parts). c.loop-u.u < nodes parts) (sym c.loop-u.invariant.goes.extends.same) (let l = c.loop-u-test.true in let e = c.node_count-u-end.ensures.size in omega (arith, l, e)))

pub loop-u-preserved : goal.loop-u-preserved
loop-u-preserved c = below_next c.args.group.now (λ parts u. AreLabelsDone parts c.args.group.now c.args.table.now u (edge_labels parts (first_dim c.args.group.now))) c.loop-u.u c.args.pass.now c.args.store.now c.loop-u.pass c.loop-u.store c.take_across_node.new.pass c.take_across_node.new.store c.loop-u.invariant c.take_across_node.ensures

pub returns : goal.returns
returns c = below_end c.args.group.now (λ parts u. AreLabelsDone parts c.args.group.now c.args.table.now u (edge_labels parts (first_dim c.args.group.now))) c.loop-u.u (nodes c.args.store.now.parts) c.args.pass.now c.args.store.now c.loop-u.pass c.loop-u.store (let l = c.loop-u-test.false in let e = c.node_count-u-end.ensures.size in omega (arith, l, e)) c.loop-u.invariant

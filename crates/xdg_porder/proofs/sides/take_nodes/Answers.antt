use Rattle.std.proofs.Common.{◌<◌, ◌∙◌, arith, subst, sym}
use Rattle.std.proofs.lemmas.Bool.{false≢true}
use Rattle.xdg_problem.specs.declared.parts.Parts.{Parts}
use Rattle.xdg_problem.specs.Places.{nodes}
use Rattle.xdg_porder.specs.Items.{IsNodeDone}
use Rattle.xdg_porder.proofs.Others.{node_skipped}
use Rattle.xdg_propcore.proofs.Turns.{below_next, below_end}
use Rattle.xdg_porder.proofs.Removing.{ready_later}
use Rattle.xdg_porder.proofs.sides.take_nodes.Goals as goal

pub take_node-requires : goal.take_node-requires
take_node-requires c = ((ready_later c.args.group.now _ c.args.pass.now c.args.store.now c.loop-u.pass c.loop-u.store c.requires.at.0 c.loop-u.invariant, c.requires.at.1), subst (λ (parts : Parts). c.loop-u.u < nodes parts) (sym c.loop-u.invariant.goes.extends.same) (let l = c.loop-u-test.true in let e = c.node_count-u-end.ensures.size in omega (arith, l, e)))

pub loop-u-preserved : goal.loop-u-preserved
loop-u-preserved c = below_next c.args.group.now (λ parts u. IsNodeDone parts c.args.group.now u) c.loop-u.u c.args.pass.now c.args.store.now c.loop-u.pass c.loop-u.store c.take_node.new.pass c.take_node.new.store c.loop-u.invariant c.take_node.ensures

pub returns : goal.returns
returns c = below_end c.args.group.now (λ parts u. IsNodeDone parts c.args.group.now u) c.loop-u.u (nodes c.args.store.now.parts) c.args.pass.now c.args.store.now c.loop-u.pass c.loop-u.store (let l = c.loop-u-test.false in let e = c.node_count-u-end.ensures.size in omega (arith, l, e)) c.loop-u.invariant

pub loop-u-preserved-then-not-contains : goal.loop-u-preserved-then-not-contains
loop-u-preserved-then-not-contains c = node_skipped c.args.touched c.args.group.now c.loop-u.u c.args.pass.now c.args.store.now c.loop-u.pass c.loop-u.store
    (let l = c.loop-u-test.true in let e = c.node_count-u-end.ensures.size in omega (arith, l, e))
    (λ h. false≢true (c.if-not-contains.ensures.value ∙ h))
    c.requires.others c.loop-u.invariant

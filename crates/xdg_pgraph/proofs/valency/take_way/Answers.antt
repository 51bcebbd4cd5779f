use Rattle.std.proofs.Common.{◌≡◌, ◌<◌, ◌∙◌, true, arith, subst, sym}
use Rattle.xdg_problem.specs.Arguments.{label_count}
use Rattle.xdg_facts.proofs.Rising.{head_in, tail_in}
use Rattle.xdg_propcore.proofs.Sweeping.{group_stays}
use Rattle.xdg_propcore.proofs.Turns.{turns_next, turns_start}
use Rattle.xdg_pgraph.specs.Bundles.{IsBundleDone}
use Rattle.xdg_pgraph.proofs.Others.{few_labels, nodes_swept}
use Rattle.xdg_pgraph.proofs.valency.take_way.Goals as goal
use Rattle.xdg_facts.specs.Rises.{has}

pub touched_nodes-nodes-requires : goal.touched_nodes-nodes-requires
touched_nodes-nodes-requires c = few_labels c.args.store.now.parts c.args.plane.now.dim.0 c.args.label c.requires.known.problem c.requires.label

pub loop-node-init : goal.loop-node-init
loop-node-init c = (tt, tt, (λ v h. h), turns_start c.args.group.now (λ parts v. IsBundleDone c.args.way parts c.args.group.now v c.args.label) c.into_iter-node-iterator.result c.args.pass.now c.args.store.now c.requires.known)

pub take_bundle-requires-clause-group : goal.take_bundle-requires-clause-group
take_bundle-requires-clause-group c = group_stays c.args.group.now c.args.pass.now c.args.store.now c.loop-node.pass c.loop-node.store c.loop-node.invariant.3.goes c.loop-node.invariant.3.known c.requires.group

pub take_bundle-requires-clause-node : goal.take_bundle-requires-clause-node
take_bundle-requires-clause-node c =
    let member = c.loop-node.invariant.2 c.in-Some.node.0 (head_in c.loop-node.node-iterator c.next.new.self c.in-Some.node.0 c.in-Some.ensures.steps) in
    let within = ((c.touched_nodes-nodes.ensures c.in-Some.node.0).0 (subst (λ s. has s c.in-Some.node.0 ≡ true) (c.into_iter-node-iterator.ensures.into_iter_gives ∙ c.iter-node-items.ensures.value) member)).0 in
    let n = c.requires.plane.nodes_is in
    omega (arith, within, n)

pub loop-node-preserved : goal.loop-node-preserved
loop-node-preserved c = (
  tt,
  tt,
  (λ v h. c.loop-node.invariant.2 v (tail_in c.loop-node.node-iterator c.next.new.self c.in-Some.node.0 v c.in-Some.ensures.steps h)),
  turns_next c.args.group.now (λ parts v. IsBundleDone c.args.way parts c.args.group.now v c.args.label) c.into_iter-node-iterator.result c.loop-node.node-iterator c.next.new.self c.in-Some.node.0 c.args.pass.now c.args.store.now c.loop-node.pass c.loop-node.store c.take_bundle.new.pass c.take_bundle.new.store c.in-Some.ensures.steps c.loop-node.invariant.3 c.take_bundle.ensures,
)

pub returns : goal.returns
returns c = nodes_swept c.args.way c.args.label c.args.touched.now c.args.group.now c.into_iter-node-iterator.result c.loop-node.node-iterator c.args.pass.now c.loop-node.pass c.args.store.now c.loop-node.store
    (subst (λ d. c.args.label < label_count c.args.store.now.parts d) c.requires.dim c.requires.label)
    (λ v within touched. subst (λ s. has s v ≡ true) (sym (c.into_iter-node-iterator.ensures.into_iter_gives ∙ c.iter-node-items.ensures.value)) ((c.touched_nodes-nodes.ensures v).1 (within, touched)))
    c.requires.others c.in-None.ensures.steps.0 c.loop-node.invariant.3

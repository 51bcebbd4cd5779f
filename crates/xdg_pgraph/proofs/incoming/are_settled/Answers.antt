use Rattle.std.proofs.Common.{◌∙◌, refl, ap, sym}
use Rattle.std.specs.Prelude.{nat_lt}
use Rattle.xdg_facts.proofs.Rising.{tail_in}
use Rattle.xdg_pgraph.proofs.Sources.{all_settled, counts_settle, settled_next, settled_start}
use Rattle.xdg_pgraph.proofs.incoming.are_settled.Goals as goal
use Rattle.xdg_facts.proofs.Sets.{next_within}

pub loop-node-init : goal.loop-node-init
loop-node-init c = (tt, tt, (λ v h. h), settled_start c.args.store.now.parts c.args.store.now.now c.args.plane.now.dim.0 c.into_iter-node-iterator.result)

pub counts_at-requires-clause-daughter : goal.counts_at-requires-clause-daughter
counts_at-requires-clause-daughter c = next_within c.args.plane.now.nodes c.args.nodes c.all_nodes.result c.meet-here.result c.into_iter-node-iterator.result c.loop-node.node-iterator c.next.new.self c.in-Some.node.0 (λ n. c.all_nodes.ensures.members n ∙ ap (nat_lt n) (sym c.requires.plane.nodes_is)) c.meet-here.ensures.members (c.into_iter-node-iterator.ensures.into_iter_gives ∙ c.iter-node-items.ensures.value) c.loop-node.invariant.2 c.in-Some.ensures.steps

pub loop-node-preserved : goal.loop-node-preserved
loop-node-preserved c = (
  tt,
  tt,
  (λ w h. c.loop-node.invariant.2 w (tail_in c.loop-node.node-iterator c.next.new.self c.in-Some.node.0 w c.in-Some.ensures.steps h)),
  settled_next c.args.store.now.parts c.args.store.now.now c.args.plane.now.dim.0 c.in-Some.node.0 c.into_iter-node-iterator.result c.loop-node.node-iterator c.next.new.self c.in-Some.ensures.steps (counts_settle c.args.store.now.parts c.args.store.now.now c.args.plane.now.dim.0 c.in-Some.node.0 c.counts_at.result c.counts_at.ensures (c.if-not-are_settled.ensures.0 refl)) c.loop-node.invariant.3,
)

pub returns : goal.returns
returns c _ = all_settled c.args.store.now.parts c.args.store.now.now c.args.plane.now.dim.0 c.args.plane.now.nodes c.args.nodes c.all_nodes.result c.meet-here.result c.into_iter-node-iterator.result c.loop-node.node-iterator (λ n. c.all_nodes.ensures.members n ∙ ap (nat_lt n) (sym c.requires.plane.nodes_is)) c.meet-here.ensures.members (c.into_iter-node-iterator.ensures.into_iter_gives ∙ c.iter-node-items.ensures.value) c.in-None.ensures.steps.0 c.loop-node.invariant.3

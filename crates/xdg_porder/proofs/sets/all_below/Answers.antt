use Rattle.std.proofs.Common.{◌≡◌, ◌∙◌, ◌↔◌, ℕ, true, sym, subst}
use Rattle.xdg_nodeset.specs.Tables.{InTable}
use Rattle.xdg_nodeset.specs.Nodes.{IsNodes}
use Rattle.xdg_porder.proofs.Gathering.{nodes_small}
use Rattle.xdg_facts.proofs.Rising.{head_in}
use Rattle.xdg_porder.proofs.sets.all_below.Goals as goal
use Rattle.xdg_facts.specs.Rises.{has}
use Rattle.xdg_facts.proofs.Gathering.{gathers_start, gathers_next, gathers_end, same_set, small_later, both_exact}

pub loop-node-init : goal.loop-node-init
loop-node-init c = (tt, tt, nodes_small c.into_iter-node-iterator.result (subst IsNodes (sym (c.into_iter-node-iterator.ensures.into_iter_gives ∙ c.iter-node-items.ensures.value)) c.iter-node-items.ensures.nodes), gathers_start (λ v x. InTable c.args.table.now v x) c.into_iter-node-iterator.result c.empty-below.result c.empty-below.ensures.value)

pub set_at-requires : goal.set_at-requires
set_at-requires c = c.loop-node.invariant.2 c.in-Some.node.0 (head_in c.loop-node.node-iterator c.next.new.self c.in-Some.node.0 c.in-Some.ensures.steps)

pub loop-node-preserved : goal.loop-node-preserved
loop-node-preserved c = (
  tt,
  tt,
  small_later c.loop-node.node-iterator c.next.new.self c.in-Some.node.0 c.in-Some.ensures.steps c.loop-node.invariant.2,
  gathers_next (λ v x. InTable c.args.table.now v x)
      c.into_iter-node-iterator.result c.loop-node.node-iterator c.next.new.self c.loop-node.below c.union-below.result c.in-Some.node.0 c.in-Some.ensures.steps
      (both_exact (λ x. has c.loop-node.below x ≡ true) (λ x. InTable c.args.table.now c.in-Some.node.0 x) c.loop-node.below c.set_at.result c.union-below.result (λ x. (λ h. h, λ h. h))
      (same_set c.set_at.result _ c.set_at.ensures) c.union-below.ensures.members) c.loop-node.invariant.3,
)

pub returns : goal.returns
returns c = subst (λ s. (v : ℕ) → (has c.loop-node.below v ≡ true) ↔ ((w : ℕ) × (has s w ≡ true) × InTable c.args.table.now w v)) (c.into_iter-node-iterator.ensures.into_iter_gives ∙ c.iter-node-items.ensures.value) (gathers_end (λ v x. InTable c.args.table.now v x) c.into_iter-node-iterator.result c.loop-node.node-iterator c.loop-node.below c.in-None.ensures.steps.0 c.loop-node.invariant.3)

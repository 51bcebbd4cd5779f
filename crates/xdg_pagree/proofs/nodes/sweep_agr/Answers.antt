use Rattle.std.proofs.Common.{◌≡◌, ◌<◌, ◌∙◌, [], ◌∷◌, sym, subst}
use Rattle.xdg_problem.specs.declared.parts.Parts.{Parts}
use Rattle.xdg_problem.specs.declared.parts.Principle.TheVariants as principles
use Rattle.xdg_problem.specs.Places.{nodes}
use Rattle.xdg_propcore.specs.Sweeps.{Sweeps}
use Rattle.xdg_pagree.specs.Places.{IsNodeDone}
use Rattle.xdg_pagree.specs.Untouched.{HasOwn}
use Rattle.xdg_propcore.proofs.Turns.{AreDone, turns_next, turns_start}
use Rattle.xdg_facts.proofs.Rising.{head_in, tail_in}
use Rattle.xdg_pagree.proofs.Others.{agr_last}
use Rattle.xdg_pagree.proofs.nodes.sweep_agr.Goals as goal

pub loop-node-init : goal.loop-node-init
loop-node-init c = (tt, tt, (λ v h. h), turns_start c.args.group.now (λ parts. IsNodeDone principles.Agr parts c.args.group.now) c.into_iter-node-iterator.result c.args.pass.now c.args.store.now c.requires.known)

pub agr_at-requires-clause-node : goal.agr_at-requires-clause-node
agr_at-requires-clause-node c =
    let left_is : c.loop-node.node-iterator ≡ c.in-Some.node.0 ∷ c.next.new.self = c.in-Some.ensures.steps in
    let there = c.loop-node.invariant.2 c.in-Some.node.0 (head_in c.loop-node.node-iterator c.next.new.self c.in-Some.node.0 left_is) in
    let own = subst (HasOwn c.args.store.now.parts c.args.touched.now) (sym (c.into_iter-node-iterator.ensures.into_iter_gives ∙ c.iter-node-items.ensures.value)) c.own_nodes-nodes.ensures in
    subst (λ (parts : Parts). c.in-Some.node.0 < nodes parts) (sym c.loop-node.invariant.3.goes.extends.same) (own.each c.in-Some.node.0 there)

pub loop-node-preserved : goal.loop-node-preserved
loop-node-preserved c =
    let left_is : c.loop-node.node-iterator ≡ c.in-Some.node.0 ∷ c.next.new.self = c.in-Some.ensures.steps in (
      tt,
      tt,
      (λ w h. c.loop-node.invariant.2 w (tail_in c.loop-node.node-iterator c.next.new.self c.in-Some.node.0 w left_is h)),
      turns_next c.args.group.now (λ parts. IsNodeDone principles.Agr parts c.args.group.now) c.into_iter-node-iterator.result c.loop-node.node-iterator c.next.new.self c.in-Some.node.0 c.args.pass.now c.args.store.now c.loop-node.pass c.loop-node.store c.agr_at.new.pass c.agr_at.new.store left_is c.loop-node.invariant.3 c.agr_at.ensures,
    )

pub returns : goal.returns
returns c =
    let left_is : c.loop-node.node-iterator ≡ [] = c.in-None.ensures.steps.0 in
    agr_last c.args.touched.now c.args.group.now c.into_iter-node-iterator.result c.args.pass.now c.args.store.now c.loop-node.pass c.loop-node.store c.requires.principle
    (subst (HasOwn c.args.store.now.parts c.args.touched.now) (sym (c.into_iter-node-iterator.ensures.into_iter_gives ∙ c.iter-node-items.ensures.value)) c.own_nodes-nodes.ensures)
    c.requires.others
    (subst (λ left. Sweeps c.args.group.now (AreDone (IsNodeDone principles.Agr c.args.store.now.parts c.args.group.now) c.into_iter-node-iterator.result left) c.args.pass.now c.args.store.now c.loop-node.pass c.loop-node.store) left_is c.loop-node.invariant.3)

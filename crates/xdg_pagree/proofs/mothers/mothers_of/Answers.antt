use Rattle.std.proofs.Common.{◌≡◌, ◌<◌, ◌∙◌, ◌∷◌, ℕ, true, sym, subst}
use Rattle.xdg_problem.specs.Places.{nodes}
use Rattle.xdg_graph.proofs.Labelled.{has_edges}
use Rattle.xdg_pagree.specs.Untouched.{AreMothersOf}
use Rattle.xdg_pagree.proofs.Bringing.{brings_end, brings_next, brings_start}
use Rattle.xdg_facts.proofs.Rising.{head_in, tail_in}
use Rattle.xdg_pagree.proofs.mothers.mothers_of.Goals as goal
use Rattle.xdg_facts.specs.Rises.{has}

pub loop-daughter-init : goal.loop-daughter-init
loop-daughter-init c = (tt, tt, (λ v h. h), brings_start c.args.store.now.parts c.args.store.now.now c.args.dim.0 c.args.label.0 c.into_iter-daughter-iterator.result c.empty-mothers.result c.empty-mothers.ensures.value)

pub mothers_may-requires : goal.mothers_may-requires
mothers_may-requires c =
    let left_is : c.loop-daughter.daughter-iterator ≡ c.in-Some.daughter.0 ∷ c.next.new.self = c.in-Some.ensures.steps in
    let there = c.loop-daughter.invariant.2 c.in-Some.daughter.0 (head_in c.loop-daughter.daughter-iterator c.next.new.self c.in-Some.daughter.0 left_is) in
    let within = (subst (λ s. (v : ℕ) → has s v ≡ true → v < nodes c.args.store.now.parts) (sym (c.into_iter-daughter-iterator.ensures.into_iter_gives ∙ c.iter-daughter-items.ensures.value)) c.requires.daughters) c.in-Some.daughter.0 there in
    has_edges c.args.store.now.parts c.args.dim.0 c.in-Some.daughter.0 c.args.label.0 within c.requires.edges

pub loop-daughter-preserved : goal.loop-daughter-preserved
loop-daughter-preserved c =
    let left_is : c.loop-daughter.daughter-iterator ≡ c.in-Some.daughter.0 ∷ c.next.new.self = c.in-Some.ensures.steps in (
      tt,
      tt,
      (λ w h. c.loop-daughter.invariant.2 w (tail_in c.loop-daughter.daughter-iterator c.next.new.self c.in-Some.daughter.0 w left_is h)),
      brings_next c.args.store.now.parts c.args.store.now.now c.args.dim.0 c.args.label.0 c.into_iter-daughter-iterator.result c.loop-daughter.daughter-iterator c.next.new.self c.loop-daughter.mothers c.mothers_may.result c.union-mothers.result c.in-Some.daughter.0 left_is c.mothers_may.ensures.exact c.union-mothers.ensures.members c.loop-daughter.invariant.3,
    )

pub returns : goal.returns
returns c = subst (λ s. AreMothersOf c.args.store.now.parts c.args.store.now.now c.args.dim.0 c.args.label.0 s c.loop-daughter.mothers) (c.into_iter-daughter-iterator.ensures.into_iter_gives ∙ c.iter-daughter-items.ensures.value)
    (brings_end c.args.store.now.parts c.args.store.now.now c.args.dim.0 c.args.label.0 c.into_iter-daughter-iterator.result c.loop-daughter.daughter-iterator c.loop-daughter.mothers c.in-None.ensures.steps.0 c.loop-daughter.invariant.3)

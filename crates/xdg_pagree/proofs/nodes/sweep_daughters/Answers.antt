use Rattle.std.proofs.Common.{◌≡◌, ◌∙◌, [], ◌∷◌, sym, subst}
use Rattle.xdg_problem.specs.Analyses.{IsPlace}
use Rattle.xdg_problem.specs.Places.{edge}
use Rattle.xdg_pagree.specs.Places.{IsDoneAt}
use Rattle.xdg_pagree.specs.Untouched.{AreNodesBeside, AreOthersDoneAt}
use Rattle.xdg_propcore.specs.Sweeps.{Sweeps}
use Rattle.xdg_pagree.proofs.AtNodes.{daughters_last, asks_fewer}
use Rattle.xdg_propcore.proofs.Turns.{AreDone, turns_next, turns_start}
use Rattle.xdg_facts.proofs.Rising.{head_in, tail_in}
use Rattle.xdg_pagree.proofs.nodes.sweep_daughters.Goals as goal
use Rattle.xdg_store.proofs.Daughters.{out_is_place}

pub loop-daughter-init : goal.loop-daughter-init
loop-daughter-init c = (tt, tt, (λ v h. h), turns_start c.args.group.now (λ parts v. IsDoneAt parts c.args.group.now (edge c.args.dim.0 c.args.mother.0 c.args.label.0 v)) c.into_iter-daughter-iterator.result c.args.pass.now c.args.store.now c.requires.known)

pub place_at-requires-clause-place : goal.place_at-requires-clause-place
place_at-requires-clause-place c =
    let left_is : c.loop-daughter.daughter-iterator ≡ c.in-Some.daughter.0 ∷ c.next.new.self = c.in-Some.ensures.steps in
    let there = c.loop-daughter.invariant.2 c.in-Some.daughter.0 (head_in c.loop-daughter.daughter-iterator c.next.new.self c.in-Some.daughter.0 left_is) in
    let is = (subst (AreNodesBeside c.args.store.now.parts c.args.mother.0) (sym (c.into_iter-daughter-iterator.ensures.into_iter_gives ∙ c.iter-daughter-items.ensures.value)) c.requires.daughters) c.in-Some.daughter.0 there in
    subst (λ parts. IsPlace parts (edge c.args.dim.0 c.args.mother.0 c.args.label.0 c.in-Some.daughter.0)) (sym c.loop-daughter.invariant.3.goes.extends.same) (out_is_place c.args.store.now.parts c.args.dim.0 c.args.mother.0 c.args.label.0 c.in-Some.daughter.0 c.requires.edges is.0 is.1)

pub place_at-requires-clause-asks : goal.place_at-requires-clause-asks
place_at-requires-clause-asks c = asks_fewer c.args.group.now.principle c.args.group.now c.loop-daughter.store.now c.args.store.now.now c.args.mother.0 c.args.label.0 c.loop-daughter.invariant.3.goes.extends.inside c.requires.asks

pub loop-daughter-preserved : goal.loop-daughter-preserved
loop-daughter-preserved c =
    let left_is : c.loop-daughter.daughter-iterator ≡ c.in-Some.daughter.0 ∷ c.next.new.self = c.in-Some.ensures.steps in (
      tt,
      tt,
      (λ w h. c.loop-daughter.invariant.2 w (tail_in c.loop-daughter.daughter-iterator c.next.new.self c.in-Some.daughter.0 w left_is h)),
      turns_next c.args.group.now (λ parts v. IsDoneAt parts c.args.group.now (edge c.args.dim.0 c.args.mother.0 c.args.label.0 v)) c.into_iter-daughter-iterator.result c.loop-daughter.daughter-iterator c.next.new.self c.in-Some.daughter.0 c.args.pass.now c.args.store.now c.loop-daughter.pass c.loop-daughter.store c.place_at.new.pass c.place_at.new.store left_is c.loop-daughter.invariant.3 c.place_at.ensures,
    )

pub returns : goal.returns
returns c =
    let left_is : c.loop-daughter.daughter-iterator ≡ [] = c.in-None.ensures.steps.0 in
    let all_are = c.into_iter-daughter-iterator.ensures.into_iter_gives ∙ c.iter-daughter-items.ensures.value in
    daughters_last c.args.group.now c.args.dim.0 c.args.mother.0 c.args.label.0 c.into_iter-daughter-iterator.result c.args.pass.now c.args.store.now c.loop-daughter.pass c.loop-daughter.store c.requires.dim
    (λ quiet. subst (λ s. AreOthersDoneAt c.args.store.now.parts c.args.group.now c.args.dim.0 c.args.mother.0 c.args.label.0 s c.args.store.now.now) (sym all_are) (c.requires.others quiet))
    (subst (λ left. Sweeps c.args.group.now (AreDone (λ v. IsDoneAt c.args.store.now.parts c.args.group.now (edge c.args.dim.0 c.args.mother.0 c.args.label.0 v)) c.into_iter-daughter-iterator.result left) c.args.pass.now c.args.store.now c.loop-daughter.pass c.loop-daughter.store) left_is c.loop-daughter.invariant.3)

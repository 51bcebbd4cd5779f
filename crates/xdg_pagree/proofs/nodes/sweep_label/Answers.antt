use Rattle.std.proofs.Common.{◌≡◌, ◌∙◌, [], ◌∷◌, sym, subst}
use Rattle.xdg_problem.specs.declared.parts.Parts.{Parts}
use Rattle.xdg_store.specs.InRange.{HasEdges}
use Rattle.xdg_graph.proofs.Labelled.{has_edges}
use Rattle.xdg_propcore.specs.Sweeps.{Sweeps}
use Rattle.xdg_pagree.specs.Places.{IsLabelDone, PlaceAsks}
use Rattle.xdg_pagree.specs.Untouched.{HasMothers}
use Rattle.xdg_propcore.proofs.Turns.{AreDone, turns_next, turns_start}
use Rattle.xdg_facts.proofs.Rising.{head_in, tail_in}
use Rattle.xdg_pagree.proofs.Others.{mothers_last}
use Rattle.xdg_pagree.proofs.nodes.sweep_label.Goals as goal

pub loop-mother-init : goal.loop-mother-init
loop-mother-init c = (tt, tt, (λ v h. h), turns_start c.args.group.now (λ parts u box. PlaceAsks c.args.group.now.principle c.args.group.now box u c.args.label.0 → IsLabelDone parts c.args.group.now u c.args.label.0 box) c.into_iter-mother-iterator.result c.args.pass.now c.args.store.now c.requires.known)

pub sweep_mother-requires-clause-edges : goal.sweep_mother-requires-clause-edges
sweep_mother-requires-clause-edges c =
    let left_is : c.loop-mother.mother-iterator ≡ c.in-Some.mother.0 ∷ c.next.new.self = c.in-Some.ensures.steps in
    let there = c.loop-mother.invariant.2 c.in-Some.mother.0 (head_in c.loop-mother.mother-iterator c.next.new.self c.in-Some.mother.0 left_is) in
    let mothers = subst (HasMothers c.args.store.now.parts c.args.store.now.now c.args.touched.now c.args.dim.0 c.args.label.0) (sym (c.into_iter-mother-iterator.ensures.into_iter_gives ∙ c.iter-mother-items.ensures.value)) c.mothers_at-mothers.ensures in
    subst (λ (parts : Parts). HasEdges parts c.args.dim.0 c.in-Some.mother.0 c.args.label.0) (sym c.loop-mother.invariant.3.goes.extends.same) (has_edges c.args.store.now.parts c.args.dim.0 c.in-Some.mother.0 c.args.label.0 (mothers.each c.in-Some.mother.0 there) c.requires.edges)

pub loop-mother-preserved : goal.loop-mother-preserved
loop-mother-preserved c =
    let left_is : c.loop-mother.mother-iterator ≡ c.in-Some.mother.0 ∷ c.next.new.self = c.in-Some.ensures.steps in (
      tt,
      tt,
      (λ w h. c.loop-mother.invariant.2 w (tail_in c.loop-mother.mother-iterator c.next.new.self c.in-Some.mother.0 w left_is h)),
      turns_next c.args.group.now (λ parts u box. PlaceAsks c.args.group.now.principle c.args.group.now box u c.args.label.0 → IsLabelDone parts c.args.group.now u c.args.label.0 box) c.into_iter-mother-iterator.result c.loop-mother.mother-iterator c.next.new.self c.in-Some.mother.0 c.args.pass.now c.args.store.now c.loop-mother.pass c.loop-mother.store c.sweep_mother.new.pass c.sweep_mother.new.store left_is c.loop-mother.invariant.3 c.sweep_mother.ensures,
    )

pub returns : goal.returns
returns c =
    let left_is : c.loop-mother.mother-iterator ≡ [] = c.in-None.ensures.steps.0 in
    mothers_last c.args.touched.now c.args.group.now c.args.dim.0 c.args.label.0 c.into_iter-mother-iterator.result c.args.pass.now c.args.store.now c.loop-mother.pass c.loop-mother.store c.requires.dim c.requires.principle
    (subst (HasMothers c.args.store.now.parts c.args.store.now.now c.args.touched.now c.args.dim.0 c.args.label.0) (sym (c.into_iter-mother-iterator.ensures.into_iter_gives ∙ c.iter-mother-items.ensures.value)) c.mothers_at-mothers.ensures)
    c.requires.others
    (subst (λ left. Sweeps c.args.group.now (AreDone (λ u box. PlaceAsks c.args.group.now.principle c.args.group.now box u c.args.label.0 → IsLabelDone c.args.store.now.parts c.args.group.now u c.args.label.0 box) c.into_iter-mother-iterator.result left) c.args.pass.now c.args.store.now c.loop-mother.pass c.loop-mother.store) left_is c.loop-mother.invariant.3)

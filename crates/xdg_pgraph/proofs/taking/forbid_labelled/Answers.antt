use Rattle.std.proofs.Common.{◌≡◌, sym, subst}
use Rattle.xdg_problem.specs.declared.analysis.Edge.{Edge}
use Rattle.xdg_problem.specs.Analyses.{IsPlace}
use Rattle.xdg_problem.specs.Places.{edge}
use Rattle.xdg_problem.proofs.PlaceOrder.{is_place}
use Rattle.xdg_propcore.specs.Passes.{Clears}
use Rattle.xdg_propcore.proofs.Aimed.{passed_all, passed_member, passed_more, passed_start}
use Rattle.xdg_graph.specs.declared.which.Which.TheVariants as whichs
use Rattle.xdg_pgraph.specs.Seeking.{Aims}
use Rattle.xdg_pgraph.proofs.PlaneFacts.{which_place}
use Rattle.xdg_pgraph.proofs.Taken.{OneOf, mothers_with}
use Rattle.xdg_pgraph.proofs.taking.forbid_labelled.Goals as goal

pub loop-mother-init : goal.loop-mother-init
loop-mother-init c = (tt, tt, passed_start (OneOf c.args.plane.now.dim.0 c.args.others (λ x. edge c.args.plane.now.dim.0 x c.args.label c.args.daughter)) c.into_iter-mother-iterator.result c.args.pass.now c.args.store.now, c.requires.known)

pub forbid_other-requires-clause-place : goal.forbid_other-requires-clause-place
forbid_other-requires-clause-place c =
    let parts = c.args.store.now.parts in
    let there = passed_member (OneOf c.args.plane.now.dim.0 c.args.others (λ x. edge c.args.plane.now.dim.0 x c.args.label c.args.daughter)) c.ends-mothers.result c.iter-mother-items.result c.into_iter-mother-iterator.result c.loop-mother.mother-iterator c.next.new.self c.in-Some.mother.0 c.args.pass.now c.loop-mother.pass c.args.store.now c.loop-mother.store
    c.iter-mother-items.ensures.value c.into_iter-mother-iterator.ensures.into_iter_gives c.in-Some.ensures.steps c.loop-mother.invariant.2 in
    let e : Edge = edge c.args.plane.now.dim.0 c.in-Some.mother.0 c.args.label c.args.daughter in
    let place = is_place parts e (which_place whichs.May parts c.args.store.now.now c.args.plane.now.dim.0 e ((c.ends-mothers.ensures c.in-Some.mother.0).0 there)).0 in
    subst (λ z. IsPlace z c.edge.result) (sym c.loop-mother.invariant.2.clears.same) (subst (IsPlace parts) (sym c.edge.ensures) place)

pub loop-mother-preserved : goal.loop-mother-preserved
loop-mother-preserved c = (
  tt,
  tt,
  passed_more (OneOf c.args.plane.now.dim.0 c.args.others (λ x. edge c.args.plane.now.dim.0 x c.args.label c.args.daughter)) c.into_iter-mother-iterator.result c.loop-mother.mother-iterator c.next.new.self c.in-Some.mother.0 c.args.pass.now c.loop-mother.pass c.forbid_other.new.pass c.args.store.now c.loop-mother.store c.forbid_other.new.store c.in-Some.ensures.steps c.loop-mother.invariant.2
      (subst (λ (e : Edge). Clears (Aims c.loop-mother.store.parts e.dim.0 c.args.others (λ f. f ≡ e)) c.loop-mother.pass c.loop-mother.store c.forbid_other.new.pass c.forbid_other.new.store) c.edge.ensures c.forbid_other.ensures.clears),
  c.forbid_other.ensures.known,
)

pub returns-clause-clears : goal.returns-clause-clears
returns-clause-clears c = mothers_with c.args.plane.now.dim.0 c.args.others c.args.daughter c.args.label c.ends-mothers.result c.args.pass.now c.loop-mother.pass c.args.store.now c.loop-mother.store c.ends-mothers.ensures
    (passed_all (OneOf c.args.plane.now.dim.0 c.args.others (λ x. edge c.args.plane.now.dim.0 x c.args.label c.args.daughter)) c.ends-mothers.result c.iter-mother-items.result c.into_iter-mother-iterator.result c.loop-mother.mother-iterator c.args.pass.now c.loop-mother.pass c.args.store.now c.loop-mother.store c.iter-mother-items.ensures.value c.into_iter-mother-iterator.ensures.into_iter_gives c.in-None.ensures.steps.0 c.loop-mother.invariant.2)

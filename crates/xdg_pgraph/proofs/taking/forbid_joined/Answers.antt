use Rattle.std.proofs.Common.{◌≡◌, sym, subst, arith}
use Rattle.xdg_problem.specs.declared.analysis.Edge.{Edge}
use Rattle.xdg_problem.specs.Analyses.{IsPlace}
use Rattle.xdg_problem.specs.Places.{edge}
use Rattle.xdg_propcore.specs.Passes.{Clears}
use Rattle.xdg_propcore.proofs.Aimed.{first_more, first_none}
use Rattle.xdg_pgraph.specs.Seeking.{Aims}
use Rattle.xdg_pgraph.proofs.PlaneFacts.{edge_place}
use Rattle.xdg_pgraph.proofs.Taken.{OneOf, labels_joined}
use Rattle.xdg_pgraph.proofs.taking.forbid_joined.Goals as goal

pub loop-label-init : goal.loop-label-init
loop-label-init c = (first_none (OneOf c.args.plane.now.dim.0 c.args.others (λ x. edge c.args.plane.now.dim.0 c.args.mother x c.args.daughter)) c.args.pass.now c.args.store.now, c.requires.known)

pub forbid_other-requires-clause-place : goal.forbid_other-requires-clause-place
forbid_other-requires-clause-place c =
    subst (λ z. IsPlace z c.edge.result) (sym c.loop-label.invariant.0.same) (subst (IsPlace c.args.store.now.parts) (sym c.edge.ensures) (edge_place c.args.store.now.parts c.args.plane.now c.args.mother c.loop-label.label c.args.daughter c.requires.plane c.requires.mother c.requires.daughter c.requires.differ c.loop-label-test.true))

pub loop-label-preserved : goal.loop-label-preserved
loop-label-preserved c = (
  first_more (OneOf c.args.plane.now.dim.0 c.args.others (λ x. edge c.args.plane.now.dim.0 c.args.mother x c.args.daughter)) c.loop-label.label c.args.pass.now c.loop-label.pass c.forbid_other.new.pass c.args.store.now c.loop-label.store c.forbid_other.new.store c.loop-label.invariant.0
      (subst (λ (e : Edge). Clears (Aims c.loop-label.store.parts e.dim.0 c.args.others (λ f. f ≡ e)) c.loop-label.pass c.loop-label.store c.forbid_other.new.pass c.forbid_other.new.store) c.edge.ensures c.forbid_other.ensures.clears),
  c.forbid_other.ensures.known,
)

pub returns-clause-clears : goal.returns-clause-clears
returns-clause-clears c =
    labels_joined c.args.store.now.parts c.args.plane.now c.args.others c.args.mother c.args.daughter c.loop-label.label c.args.pass.now c.loop-label.pass c.args.store.now c.loop-label.store c.requires.plane (let t = c.loop-label-test.false in omega (arith, t)) c.loop-label.invariant.0

use Rattle.std.proofs.Common.{refl, sym, subst, arith}
use Rattle.std.proofs.lemmas.Bool.{false≢true}
use Rattle.xdg_problem.specs.Analyses.{IsPlace}
use Rattle.xdg_pgraph.proofs.PlaneFacts.{edge_place}
use Rattle.xdg_pgraph.proofs.Searched.{joined_yes, joined_not, joined_end}
use Rattle.xdg_pgraph.proofs.finding.joined.Goals as goal

pub is_among-requires-clause-place : goal.is_among-requires-clause-place
is_among-requires-clause-place c = subst (IsPlace c.args.store.now.parts) (sym c.edge-edge.ensures) (edge_place c.args.store.now.parts c.args.plane.now c.args.mother c.loop-label.label c.args.daughter c.requires.plane c.requires.mother c.requires.daughter c.requires.differ c.loop-label-test.true)

pub loop-label-preserved-then-not-is_among : goal.loop-label-preserved-then-not-is_among
loop-label-preserved-then-not-is_among c =
    joined_not c.args.which c.args.store.now.parts c.args.store.now.now c.args.plane.now c.args.mother c.args.daughter c.loop-label.label c.edge-edge.result c.loop-label.found c.edge-edge.ensures
    c.loop-label.invariant (λ k. false≢true (c.if-not-is_among.ensures.1 k))

pub loop-label-preserved : goal.loop-label-preserved
loop-label-preserved c =
    joined_yes c.args.which c.args.store.now.parts c.args.store.now.now c.args.plane.now c.args.mother c.args.daughter c.loop-label.label c.edge-edge.result c.loop-label.found c.edge-edge.ensures
    c.loop-label.invariant c.with-found.result (c.if-not-is_among.ensures.0 refl) c.with-found.ensures

pub returns : goal.returns
returns c = joined_end c.args.which c.args.store.now.parts c.args.store.now.now c.args.plane.now c.requires.plane c.args.mother c.args.daughter c.loop-label.label c.loop-label.found (let t = c.loop-label-test.false in omega (arith, t)) c.loop-label.invariant

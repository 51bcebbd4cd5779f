use Rattle.std.proofs.Common.{◌≡◌, sym, subst}
use Rattle.std.specs.Prelude.{cond}
use Rattle.xdg_problem.specs.Analyses.{IsPlace}
use Rattle.xdg_problem.specs.Boxes.{edge_decision}
use Rattle.xdg_problem.specs.declared.analysis.Edge.{Edge}
use Rattle.xdg_problem.specs.declared.parts.Parts.{Parts}
use Rattle.xdg_propcore.specs.Passes.{Clears}
use Rattle.xdg_propcore.proofs.Aimed.{passed_all, passed_member, passed_more, passed_start}
use Rattle.xdg_pgraph.proofs.Clearing.{OpenAt, opened_all}
use Rattle.xdg_pgraph.proofs.valency.take_open.Goals as goal

pub loop-other-init : goal.loop-other-init
loop-other-init c = (tt, tt, passed_start (OpenAt c.args.plane.now.dim.0 c.args.bundle (cond c.args.present 0 1)) c.into_iter-other-iterator.result c.args.pass.now c.args.store.now, c.requires.known)

pub take_value-requires : goal.take_value-requires
take_value-requires c =
    let is = passed_member (OpenAt c.args.plane.now.dim.0 c.args.bundle (cond c.args.present 0 1)) c.args.others c.iter-other-items.result c.into_iter-other-iterator.result c.loop-other.other-iterator c.next.new.self c.in-Some.other.0 c.args.pass.now c.loop-other.pass c.args.store.now c.loop-other.store
    c.iter-other-items.ensures.value c.into_iter-other-iterator.ensures.into_iter_gives c.in-Some.ensures.steps c.loop-other.invariant.2 in
    record { place = subst (λ (parts : Parts). IsPlace parts c.edge.result) (sym c.loop-other.invariant.2.clears.same) (subst (IsPlace c.args.store.now.parts) (sym c.edge.ensures) (c.requires.places c.in-Some.other.0 is)) }

pub loop-other-preserved : goal.loop-other-preserved
loop-other-preserved c = (
  tt,
  tt,
  passed_more (OpenAt c.args.plane.now.dim.0 c.args.bundle (cond c.args.present 0 1)) c.into_iter-other-iterator.result c.loop-other.other-iterator c.next.new.self c.in-Some.other.0 c.args.pass.now c.loop-other.pass c.take_value.new.pass c.args.store.now c.loop-other.store c.take_value.new.store c.in-Some.ensures.steps c.loop-other.invariant.2
      (subst (λ (e : Edge). Clears (λ d v. (d ≡ edge_decision c.loop-other.store.parts e) × (v ≡ cond c.args.present 0 1)) c.loop-other.pass c.loop-other.store c.take_value.new.pass c.take_value.new.store) c.edge.ensures c.take_value.ensures.clears),
  c.take_value.ensures.known,
)

pub returns-clause-clears : goal.returns-clause-clears
returns-clause-clears c = opened_all c.args.store.now.parts c.args.plane.now.dim.0 c.args.bundle c.args.others (cond c.args.present 0 1) c.args.pass.now c.loop-other.pass c.args.store.now c.loop-other.store
    (passed_all (OpenAt c.args.plane.now.dim.0 c.args.bundle (cond c.args.present 0 1)) c.args.others c.iter-other-items.result c.into_iter-other-iterator.result c.loop-other.other-iterator c.args.pass.now c.loop-other.pass c.args.store.now c.loop-other.store c.iter-other-items.ensures.value c.into_iter-other-iterator.ensures.into_iter_gives c.in-None.ensures.steps.0 c.loop-other.invariant.2)

use Rattle.std.proofs.Common.{refl}
use Rattle.xdg_problem.specs.Places.{edge}
use Rattle.xdg_problem.proofs.PlaceOrder.{place_is}
use Rattle.xdg_propcore.proofs.Aimed.{passed_all, passed_more, passed_start}
use Rattle.xdg_pmulti.specs.Aims.{Forbids}
use Rattle.xdg_pmulti.proofs.Aiming.{To, beyond_all, to_place}
use Rattle.xdg_pmulti.proofs.Forbidding.{one_edge}
use Rattle.xdg_pmulti.proofs.taking.forbid_beyond.Goals as goal

pub loop-daughter-init : goal.loop-daughter-init
loop-daughter-init c = (tt, tt, passed_start (λ parts x. Forbids parts c.args.dim.0 (To c.args.dim.0 c.args.mother.0 c.args.label.0 x)) c.into_iter-daughter-iterator.result c.args.pass.now c.args.store.now, c.requires.known)

pub forbid-requires : goal.forbid-requires
forbid-requires c = to_place c.args.dim.0 c.args.mother.0 c.args.label.0 c.args.within c.minus-beyond.result c.iter-daughter-items.result c.into_iter-daughter-iterator.result c.loop-daughter.daughter-iterator c.next.new.self c.in-Some.daughter.0 c.args.pass.now c.loop-daughter.pass c.args.store.now c.loop-daughter.store c.requires.known
    (record { mask = c.daughters_by.result; daughters = c.daughters_by.ensures.exact; first_is = c.minus-beyond.ensures.members }) c.iter-daughter-items.ensures.value c.into_iter-daughter-iterator.ensures.into_iter_gives c.in-Some.ensures.steps c.loop-daughter.invariant.2

pub loop-daughter-preserved : goal.loop-daughter-preserved
loop-daughter-preserved c =
    let e = edge c.args.dim.0 c.args.mother.0 c.args.label.0 c.in-Some.daughter.0 in
    let place = to_place c.args.dim.0 c.args.mother.0 c.args.label.0 c.args.within c.minus-beyond.result c.iter-daughter-items.result c.into_iter-daughter-iterator.result c.loop-daughter.daughter-iterator c.next.new.self c.in-Some.daughter.0 c.args.pass.now c.loop-daughter.pass c.args.store.now c.loop-daughter.store c.requires.known
    (record { mask = c.daughters_by.result; daughters = c.daughters_by.ensures.exact; first_is = c.minus-beyond.ensures.members }) c.iter-daughter-items.ensures.value c.into_iter-daughter-iterator.ensures.into_iter_gives c.in-Some.ensures.steps c.loop-daughter.invariant.2 in (
      tt,
      tt,
      passed_more (λ parts x. Forbids parts c.args.dim.0 (To c.args.dim.0 c.args.mother.0 c.args.label.0 x)) c.into_iter-daughter-iterator.result c.loop-daughter.daughter-iterator c.next.new.self c.in-Some.daughter.0 c.args.pass.now c.loop-daughter.pass c.forbid.new.self c.args.store.now c.loop-daughter.store c.forbid.new.store c.in-Some.ensures.steps c.loop-daughter.invariant.2
          (one_edge c.loop-daughter.store.parts c.args.dim.0 e c.loop-daughter.pass c.forbid.new.self c.loop-daughter.store c.forbid.new.store (place_is c.loop-daughter.store.parts e place, refl) c.forbid.ensures.clears),
      c.forbid.ensures.known,
    )

pub returns-clause-clears : goal.returns-clause-clears
returns-clause-clears c =
    beyond_all c.args.dim.0 c.args.mother.0 c.args.label.0 c.args.within c.minus-beyond.result c.args.pass.now c.loop-daughter.pass c.args.store.now c.loop-daughter.store c.requires.known
    (record { mask = c.daughters_by.result; daughters = c.daughters_by.ensures.exact; first_is = c.minus-beyond.ensures.members })
    (passed_all (λ parts x. Forbids parts c.args.dim.0 (To c.args.dim.0 c.args.mother.0 c.args.label.0 x)) c.minus-beyond.result c.iter-daughter-items.result c.into_iter-daughter-iterator.result c.loop-daughter.daughter-iterator c.args.pass.now c.loop-daughter.pass c.args.store.now c.loop-daughter.store c.iter-daughter-items.ensures.value c.into_iter-daughter-iterator.ensures.into_iter_gives c.in-None.ensures.steps.0 c.loop-daughter.invariant.2)

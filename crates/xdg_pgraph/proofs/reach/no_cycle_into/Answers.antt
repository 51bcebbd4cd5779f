use Rattle.std.proofs.Common.{◌≢◌, ◌<◌, arith}
use Rattle.xdg_propcore.proofs.Aimed.{passed_all, passed_member, passed_more, passed_start}
use Rattle.xdg_pgraph.specs.declared.found.Found.TheVariants as founds
use Rattle.xdg_pgraph.specs.Seeking.{Aims, FromTo}
use Rattle.xdg_pgraph.proofs.Reached.{back_all, back_between, back_none}
use Rattle.xdg_pgraph.proofs.reach.no_cycle_into.Goals as goal
use Rattle.xdg_pgraph.proofs.reach.no_cycle_into.Goals.{In-Some}

pub returns-then-len-eq0-clause-clears : goal.returns-then-len-eq0-clause-clears
returns-then-len-eq0-clause-clears c = back_none c.args.plane.now c.args.far.now c.args.daughter c.args.pass.now c.args.store.now c.set_at-below.result c.set_at-below.ensures (let e = c.len.ensures.value in let t = c.if-len-eq0.true in omega (arith, e, t))

pub loop-mother-init : goal.loop-mother-init
loop-mother-init c = (tt, tt, passed_start (λ parts x. Aims parts c.args.plane.now.dim.0 founds.More (FromTo x c.args.daughter)) c.into_iter-mother-iterator.result c.args.pass.now c.args.store.now, c.requires.known)

between : (c : In-Some) → (c.in-Some.mother.0 < c.args.plane.now.nodes) × (c.in-Some.mother.0 ≢ c.args.daughter)
between c = back_between c.args.plane.now c.args.far.now c.args.daughter c.args.store.now.parts c.args.store.now.now c.mothers_of.result c.set_at-below.result c.meet-back.result c.mothers_of.ensures.exact c.set_at-below.ensures c.meet-back.ensures.members c.in-Some.mother.0 c.requires.plane
    (passed_member (λ parts x. Aims parts c.args.plane.now.dim.0 founds.More (FromTo x c.args.daughter)) c.meet-back.result c.iter-mother-items.result c.into_iter-mother-iterator.result c.loop-mother.mother-iterator c.next.new.self c.in-Some.mother.0 c.args.pass.now c.loop-mother.pass c.args.store.now c.loop-mother.store c.iter-mother-items.ensures.value c.into_iter-mother-iterator.ensures.into_iter_gives c.in-Some.ensures.steps c.loop-mother.invariant.2)

pub forbid_joined-requires-clause-mother : goal.forbid_joined-requires-clause-mother
forbid_joined-requires-clause-mother c = (between (goal.at.forbid_joined-requires-clause-mother c).In-Some).0

pub forbid_joined-requires-clause-differ : goal.forbid_joined-requires-clause-differ
forbid_joined-requires-clause-differ c = (between (goal.at.forbid_joined-requires-clause-differ c).In-Some).1

pub loop-mother-preserved : goal.loop-mother-preserved
loop-mother-preserved c = (
  tt,
  tt,
  passed_more (λ parts x. Aims parts c.args.plane.now.dim.0 founds.More (FromTo x c.args.daughter)) c.into_iter-mother-iterator.result c.loop-mother.mother-iterator c.next.new.self c.in-Some.mother.0 c.args.pass.now c.loop-mother.pass c.forbid_joined.new.pass c.args.store.now c.loop-mother.store c.forbid_joined.new.store c.in-Some.ensures.steps c.loop-mother.invariant.2 c.forbid_joined.ensures.clears,
  c.forbid_joined.ensures.known,
)

pub returns-clause-clears : goal.returns-clause-clears
returns-clause-clears c =
    back_all c.args.plane.now c.args.far.now c.args.daughter c.args.pass.now c.loop-mother.pass c.args.store.now c.loop-mother.store c.mothers_of.result c.set_at-below.result c.meet-back.result c.mothers_of.ensures.exact c.set_at-below.ensures c.meet-back.ensures.members
    (passed_all (λ parts x. Aims parts c.args.plane.now.dim.0 founds.More (FromTo x c.args.daughter)) c.meet-back.result c.iter-mother-items.result c.into_iter-mother-iterator.result c.loop-mother.mother-iterator c.args.pass.now c.loop-mother.pass c.args.store.now c.loop-mother.store c.iter-mother-items.ensures.value c.into_iter-mother-iterator.ensures.into_iter_gives c.in-None.ensures.steps.0 c.loop-mother.invariant.2)

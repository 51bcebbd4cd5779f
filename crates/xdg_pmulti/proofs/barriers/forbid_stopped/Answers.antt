use Rattle.std.proofs.Common.{◌<◌, arith}
use Rattle.xdg_problem.specs.Places.{nodes}
use Rattle.xdg_propcore.proofs.Aimed.{passed_all, passed_more, passed_start}
use Rattle.xdg_pmulti.specs.Aims.{Forbids}
use Rattle.xdg_pmulti.proofs.Aiming.{ByBarrier, barrier_out, stopped_all, under_within}
use Rattle.xdg_pmulti.proofs.Forbidding.{passed_node}
use Rattle.xdg_pmulti.proofs.barriers.forbid_stopped.Goals as goal
use Rattle.xdg_pmulti.proofs.barriers.forbid_stopped.Goals.{In-Some}

pub loop-barrier-init : goal.loop-barrier-init
loop-barrier-init c = (tt, tt, passed_start (λ parts x. Forbids parts c.args.dim.0 (ByBarrier c.args.label.0 c.args.over.now c.args.near.now x)) c.into_iter-barrier-iterator.result c.args.pass.now c.args.store.now, c.requires.known)

within : (c : In-Some) → c.in-Some.barrier.0 < nodes c.loop-barrier.store.parts
within c = passed_node (λ parts x. Forbids parts c.args.dim.0 (ByBarrier c.args.label.0 c.args.over.now c.args.near.now x)) c.args.barriers c.iter-barrier-items.result c.into_iter-barrier-iterator.result c.loop-barrier.barrier-iterator c.next.new.self c.in-Some.barrier.0 c.args.pass.now c.loop-barrier.pass c.args.store.now c.loop-barrier.store c.iter-barrier-items.ensures.value c.into_iter-barrier-iterator.ensures.into_iter_gives c.in-Some.ensures.steps c.requires.barriers c.loop-barrier.invariant.2

pub and_below-mothers-requires : goal.and_below-mothers-requires
and_below-mothers-requires c = (let l = within (goal.at.and_below-mothers-requires c).In-Some in let most = c.loop-barrier.invariant.3.problem.most in omega (arith, l, most))

pub set_at-within-requires : goal.set_at-within-requires
set_at-within-requires c = (let l = within (goal.at.set_at-within-requires c).In-Some in let most = c.loop-barrier.invariant.3.problem.most in omega (arith, l, most))

pub forbid_out-requires-clause-nodes : goal.forbid_out-requires-clause-nodes
forbid_out-requires-clause-nodes c =
    under_within c.args.store.now.parts c.loop-barrier.store.parts c.args.over.now c.in-Some.barrier.0 c.and_below-mothers.result c.loop-barrier.invariant.2.clears.same c.requires.over
    (within (goal.at.forbid_out-requires-clause-nodes c).In-Some) c.and_below-mothers.ensures

pub loop-barrier-preserved : goal.loop-barrier-preserved
loop-barrier-preserved c = (
  tt,
  tt,
  passed_more (λ parts x. Forbids parts c.args.dim.0 (ByBarrier c.args.label.0 c.args.over.now c.args.near.now x)) c.into_iter-barrier-iterator.result c.loop-barrier.barrier-iterator c.next.new.self c.in-Some.barrier.0 c.args.pass.now c.loop-barrier.pass c.forbid_out.new.pass c.args.store.now c.loop-barrier.store c.forbid_out.new.store c.in-Some.ensures.steps c.loop-barrier.invariant.2
      (barrier_out c.loop-barrier.store.parts c.args.dim.0 c.args.label.0 c.in-Some.barrier.0 c.args.over.now c.args.near.now c.and_below-mothers.result c.set_at-within.result c.loop-barrier.pass c.forbid_out.new.pass c.loop-barrier.store c.forbid_out.new.store c.and_below-mothers.ensures c.set_at-within.ensures c.forbid_out.ensures.clears),
  c.forbid_out.ensures.known,
)

pub returns-clause-clears : goal.returns-clause-clears
returns-clause-clears c = stopped_all c.args.store.now.parts c.args.dim.0 c.args.label.0 c.args.barriers c.args.over.now c.args.near.now c.args.pass.now c.loop-barrier.pass c.args.store.now c.loop-barrier.store
    (passed_all (λ parts x. Forbids parts c.args.dim.0 (ByBarrier c.args.label.0 c.args.over.now c.args.near.now x)) c.args.barriers c.iter-barrier-items.result c.into_iter-barrier-iterator.result c.loop-barrier.barrier-iterator c.args.pass.now c.loop-barrier.pass c.args.store.now c.loop-barrier.store c.iter-barrier-items.ensures.value c.into_iter-barrier-iterator.ensures.into_iter_gives c.in-None.ensures.steps.0 c.loop-barrier.invariant.2)

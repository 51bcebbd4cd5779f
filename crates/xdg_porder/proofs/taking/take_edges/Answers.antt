use Rattle.xdg_propcore.proofs.Aimed.{passed_all, passed_member, passed_more, passed_start}
use Rattle.xdg_porder.proofs.Removing.{EdgeAt, edge_place, edges_taken}
use Rattle.xdg_porder.proofs.taking.take_edges.Goals as goal

pub loop-daughter-init : goal.loop-daughter-init
loop-daughter-init c = (tt, tt, passed_start (EdgeAt c.dim_of-dim.result.0 c.args.u.0 c.args.label.0) c.into_iter-daughter-iterator.result c.args.pass.now c.args.store.now, c.requires.ready.known)

pub forbid-requires : goal.forbid-requires
forbid-requires c = edge_place c.args.group.now c.args.u.0 c.args.label.0 c.args.refused c.args.store.now c.requires.takes c.dim_of-dim.result.0 c.in-Some.daughter.0 c.loop-daughter.store.parts
    c.loop-daughter.invariant.2.clears.same c.dim_of-dim.ensures
    (passed_member (EdgeAt c.dim_of-dim.result.0 c.args.u.0 c.args.label.0) c.args.refused c.iter-daughter-items.result c.into_iter-daughter-iterator.result c.loop-daughter.daughter-iterator
    c.next.new.self c.in-Some.daughter.0 c.args.pass.now c.loop-daughter.pass c.args.store.now c.loop-daughter.store
    c.iter-daughter-items.ensures.value c.into_iter-daughter-iterator.ensures.into_iter_gives c.in-Some.ensures.steps c.loop-daughter.invariant.2)

pub loop-daughter-preserved : goal.loop-daughter-preserved
loop-daughter-preserved c = (
  tt,
  tt,
  passed_more (EdgeAt c.dim_of-dim.result.0 c.args.u.0 c.args.label.0) c.into_iter-daughter-iterator.result c.loop-daughter.daughter-iterator c.next.new.self c.in-Some.daughter.0 c.args.pass.now
      c.loop-daughter.pass c.forbid.new.self c.args.store.now c.loop-daughter.store c.forbid.new.store
      c.in-Some.ensures.steps c.loop-daughter.invariant.2 c.forbid.ensures.clears,
  c.forbid.ensures.known,
)

pub returns : goal.returns
returns c = edges_taken c.args.group.now c.args.u.0 c.args.label.0 c.dim_of-dim.result.0 c.args.refused c.args.pass.now c.loop-daughter.pass c.args.store.now c.loop-daughter.store
    c.dim_of-dim.ensures c.requires.ready c.requires.takes c.loop-daughter.invariant.3
    (passed_all (EdgeAt c.dim_of-dim.result.0 c.args.u.0 c.args.label.0) c.args.refused c.iter-daughter-items.result c.into_iter-daughter-iterator.result c.loop-daughter.daughter-iterator
    c.args.pass.now c.loop-daughter.pass c.args.store.now c.loop-daughter.store
    c.iter-daughter-items.ensures.value c.into_iter-daughter-iterator.ensures.into_iter_gives c.in-None.ensures.steps.0 c.loop-daughter.invariant.2)

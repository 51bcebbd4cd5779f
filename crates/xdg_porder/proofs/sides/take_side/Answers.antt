use Rattle.std.proofs.Common.{◌≡◌, true, arith, length, subst}
use Rattle.std.proofs.lemmas.Bool.{false≢true}
use Rattle.xdg_porder.proofs.Removing.{node_later}
use Rattle.xdg_porder.proofs.Siding.{none_yet, reached_wrong, reaches_next, side_end, side_first, side_next}
use Rattle.xdg_porder.proofs.sides.take_side.Goals as goal
use Rattle.xdg_facts.specs.Rises.{has}

pub loop-place-init : goal.loop-place-init
loop-place-init c = (
  side_first c.args.group.now c.args.u.0 c.args.side c.args.pass.now c.args.store.now c.requires.0.0.known,
  none_yet c.args.group.now c.args.u.0 c.args.side c.args.pass.now c.args.store.now c.empty-reached.result (λ v there. false≢true (subst (λ s. has s v ≡ true) c.empty-reached.ensures.value there)),
)

pub take_reached-requires-clause-at : goal.take_reached-requires-clause-at
take_reached-requires-clause-at c = node_later c.args.group.now c.args.u.0 _ c.args.pass.now c.args.store.now c.loop-place.pass c.loop-place.store c.requires c.loop-place.invariant.0

pub take_reached-requires-clause-wrong : goal.take_reached-requires-clause-wrong
take_reached-requires-clause-wrong c = reached_wrong c.args.group.now c.args.u.0 c.args.side c.loop-place.place c.label_from-label.result.0 c.loop-place.reached c.loop-place.pass c.loop-place.store
    (let l = c.loop-place-test.true in let e = c.len-place-end.ensures in omega (arith, l, e))
    c.label_from-label.ensures c.loop-place.invariant.1

pub must_items-ends-requires : goal.must_items-ends-requires
must_items-ends-requires c =
    let at = node_later c.args.group.now c.args.u.0 _ c.args.pass.now c.args.store.now c.loop-place.pass c.loop-place.store c.requires c.loop-place.invariant.0 in
    node_later c.args.group.now c.args.u.0 _ c.loop-place.pass c.loop-place.store c.take_reached.new.pass c.take_reached.new.store at c.take_reached.ensures

pub loop-place-preserved : goal.loop-place-preserved
loop-place-preserved c =
    let group = c.args.group.now in
    let u = c.args.u.0 in
    let side = c.args.side in
    let loop = c.loop-place in
    let at = node_later group u _ c.args.pass.now c.args.store.now loop.pass loop.store c.requires loop.invariant.0 in
    let label = c.label_from-label in
    let taken = c.take_reached in (
      side_next group u side loop.place label.result.0 label.ensures loop.reached loop.pass loop.store taken.new.pass taken.new.store at loop.invariant.1 taken.ensures c.args.store.now c.args.pass.now loop.invariant.0,
      reaches_next group u side loop.place label.result.0 label.ensures loop.reached loop.pass loop.store taken.new.pass taken.new.store at loop.invariant.1 taken.ensures c.must_items-ends.result c.reach.result c.union-reached.result c.must_items-ends.ensures c.reach.ensures.sound c.reach.ensures.whole c.union-reached.ensures.members,
    )

pub returns : goal.returns
returns c = side_end c.args.group.now c.args.u.0 c.args.side c.loop-place.place (length c.args.group.now.order) c.args.pass.now c.args.store.now c.loop-place.pass c.loop-place.store (let l = c.loop-place-test.false in let e = c.len-place-end.ensures in omega (arith, l, e)) c.loop-place.invariant.0

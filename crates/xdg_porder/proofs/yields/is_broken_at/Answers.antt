use Rattle.std.proofs.Common.{ℕ, ◌≡◌, ◌↔◌, true, arith, refl, subst}
use Rattle.std.proofs.lemmas.Bool.{false≢true}
use Rattle.xdg_porder.specs.Yields.{StandsAt, StandsBelow}
use Rattle.xdg_porder.proofs.Settling.{order_broken, order_next, order_start}
use Rattle.xdg_porder.proofs.yields.is_broken_at.Goals as goal
use Rattle.xdg_facts.specs.Rises.{has}

pub loop-place-init : goal.loop-place-init
loop-place-init c = order_start (StandsAt c.args.store.now.parts c.args.group.now c.args.table.now c.args.store.now.now c.args.u.0) c.empty-reached.result c.empty-reached.ensures.value

pub returns-then-overlap : goal.returns-then-overlap
returns-then-overlap c = (
  λ t. order_broken (StandsAt c.args.store.now.parts c.args.group.now c.args.table.now c.args.store.now.now c.args.u.0) c.loop-place.place c.loop-place.reached c.stands_below-below.result c.overlap.result c.loop-place.invariant
      (subst (λ l. (x : ℕ) → (has c.stands_below-below.result x ≡ true) ↔ StandsBelow c.args.store.now.parts c.args.group.now c.args.table.now c.args.store.now.now c.args.u.0 l x) c.label_at.ensures c.stands_below-below.ensures)
      c.overlap.ensures _ (let l = c.loop-place-test.true in let e = c.len-place-end.ensures in omega (arith, l, e)) c.if-overlap.true,
  λ broken. refl,
)

pub loop-place-preserved : goal.loop-place-preserved
loop-place-preserved c = order_next (StandsAt c.args.store.now.parts c.args.group.now c.args.table.now c.args.store.now.now c.args.u.0) c.loop-place.place c.loop-place.reached c.stands_below-below.result c.overlap.result c.loop-place.invariant
    (subst (λ l. (x : ℕ) → (has c.stands_below-below.result x ≡ true) ↔ StandsBelow c.args.store.now.parts c.args.group.now c.args.table.now c.args.store.now.now c.args.u.0 l x) c.label_at.ensures c.stands_below-below.ensures)
    c.overlap.ensures c.left_of.result c.union-reached.result c.left_of.ensures c.union-reached.ensures.members c.if-overlap.false

pub returns : goal.returns
returns c = (
  λ t. absurd (false≢true t),
  λ (i, j, x, y, less, within, first, second, at). absurd (c.loop-place.invariant.1 i j x y less (let n = c.loop-place-test.false in let e = c.len-place-end.ensures in omega (arith, n, e, within)) first second at),
)

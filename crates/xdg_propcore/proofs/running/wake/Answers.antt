use Rattle.std.proofs.Common.{◌<◌, length, ◌∙◌, arith}
use Rattle.xdg_propcore.proofs.Waking.{woken_hit, woken_miss, shares, shares_none}
use Rattle.xdg_propcore.proofs.running.wake.Goals as goal
use Rattle.xdg_propcore.proofs.running.wake.Goals.{then-intersects, else-intersects}

pub loop-at-preserved : goal.loop-at-preserved
loop-at-preserved c =
    let within : c.loop-at.at < length c.loop-at.awake = (let t = c.loop-at-test.true in let s = c.loop-at.invariant.same in omega (arith, t, s, c.requires)) in
    elim c.if-intersects.branch [
      | then-intersects w ↦ woken_hit _ _ _ c.loop-at.awake c.if-intersects.awake c.loop-at.at c.loop-at.invariant within (shares c.args.wakes.now c.args.lost.0 c.loop-at.at _ c.intersects.result c.loop-at-test.true (c.intersects.ensures tt) w.if-intersects.true) (w.awake-is ∙ w.wake.ensures)
      | else-intersects w ↦ woken_miss _ _ _ c.loop-at.awake c.if-intersects.awake c.loop-at.at c.loop-at.invariant (shares_none c.args.wakes.now c.args.lost.0 c.loop-at.at _ c.intersects.result c.loop-at-test.true (c.intersects.ensures tt) w.if-intersects.false) w.awake-is
    ]

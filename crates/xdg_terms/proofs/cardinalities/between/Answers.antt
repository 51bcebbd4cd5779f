use Rattle.std.proofs.Common.{◌≤◌, arith}
use Rattle.xdg_terms.proofs.Counting.{within, interval_begins, interval_grows, interval_ends}
use Rattle.xdg_terms.proofs.cardinalities.between.Goals as goal

pub loop-number-init : goal.loop-number-init
loop-number-init c = (tt, (omega arith, interval_begins c.args.low c.args.high))

pub loop-number-preserved : goal.loop-number-preserved
loop-number-preserved c =
    let above = c.loop-number.invariant.1.0 in
    let below : c.loop-number.number ≤ c.args.high = omega (arith, c.loop-number-test.true, c.min-number-end.ensures) in (
      c.with.ensures.cards,
      (
        omega (arith, above),
        interval_grows c.args.low c.args.high c.loop-number.number c.loop-number.made c.with.result above below c.with.ensures.members c.loop-number.invariant.1.1,
      ),
    )

pub returns : goal.returns
returns c =
    c.found_or_all.ensures (within c.args.low c.args.high)
    (interval_ends c.args.low c.args.high c.loop-number.number c.loop-number.made (omega (arith, c.loop-number-test.false, c.min-number-end.ensures)) c.loop-number.invariant.1.1)

use Rattle.std.proofs.Common.{arith}
use Rattle.xdg_terms.proofs.Counting.{stands_in, number_added, number_passed, numbers_end}
use Rattle.xdg_terms.proofs.cardinalities.among.Goals as goal

pub loop-num-preserved-then-num-gt127 : goal.loop-num-preserved-then-num-gt127
loop-num-preserved-then-num-gt127 c = number_passed c.args.numbers.now c.loop-num.num-index _ c.loop-num.made c.loop-num-test.true c.if-num-gt127.true c.loop-num.invariant

pub loop-num-preserved : goal.loop-num-preserved
loop-num-preserved c = number_added c.args.numbers.now c.loop-num.num-index _ c.loop-num.made c.with.result c.loop-num-test.true c.with.ensures.cards c.with.ensures.members c.loop-num.invariant

pub returns : goal.returns
returns c = c.found_or_all.ensures (stands_in c.args.numbers.now) (numbers_end c.args.numbers.now c.loop-num.num-index c.loop-num.made (omega (arith, c.loop-num-test.false)) c.loop-num.invariant)

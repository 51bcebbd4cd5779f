use Rattle.std.proofs.Common.{◌-◌, le_refl, length, arith}
use Rattle.xdg_linear.proofs.Nexts.{falls_last, falls_more}
use Rattle.xdg_linear.proofs.advancing.pivot.Goals as goal

pub loop-at-init : goal.loop-at-init
loop-at-init c = (le_refl (length c.args.numbers.now), falls_last c.args.numbers.now)

pub loop-at-preserved : goal.loop-at-preserved
loop-at-preserved c = (omega arith, falls_more c.args.numbers.now (c.loop-at.at - 1 - 1) (c.loop-at.at - 1) (omega arith) (omega arith) c.if-numbers-at.false c.loop-at.invariant.1)

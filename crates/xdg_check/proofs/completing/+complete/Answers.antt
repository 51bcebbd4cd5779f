use Rattle.xdg_check.proofs.Completed.{completed_or, completed_and}
use Rattle.xdg_check.proofs.completing.+complete.Goals as goal

pub returns-after-loop-member : goal.returns-after-loop-member
returns-after-loop-member t c = λ named.
    completed_or _ c.args.expr.now c.in-Or.members c.as_slice-member-items.result.now c.loop-member.made c.loop-member.member-index
    c.as_slice-member-items.ensures c.loop-member-test.false (c.loop-member.invariant named) c.in-Or.is

pub returns-after-loop-member-2 : goal.returns-after-loop-member-2
returns-after-loop-member-2 t c = λ named.
    completed_and _ c.args.expr.now c.in-And.members c.as_slice-member-items-in-And.result.now c.loop-member-2.made c.loop-member-2.member-index
    c.as_slice-member-items-in-And.ensures c.loop-member-2-test.false (c.loop-member-2.invariant named) c.in-And.is

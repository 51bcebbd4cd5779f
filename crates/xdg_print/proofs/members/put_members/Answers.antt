use Rattle.std.proofs.Common.{get_or, arith}
use Rattle.xdg_domain.specs.Shapes.{shape, count}
use Rattle.xdg_print.proofs.Put.{next_of, finish}
use Rattle.xdg_print.specs.ValueWords.{member_words}
use Rattle.xdg_print.proofs.Layered.{below_at}
use Rattle.xdg_print.proofs.Stood.{braces_done}
use Rattle.xdg_print.proofs.members.put_members.Goals as goal
use Rattle.xdg_facts.proofs.Lists.{any_default}

pub put_member-requires-clause-below : goal.put_member-requires-clause-below
put_member-requires-clause-below c = below_at (count (shape c.args.ty.now)) c.args.numbers.now c.loop-number.number-index c.requires.below c.loop-number-test.true

pub loop-number-preserved : goal.loop-number-preserved
loop-number-preserved c =
    next_of c.loop-number.printer (member_words (shape c.args.ty.now)) c.args.numbers.now c.loop-number.number-index (get_or c.args.numbers.now c.loop-number.number-index 0) c.loop-number-test.true
    (any_default c.args.numbers.now c.loop-number.number-index 0 _ c.loop-number-test.true) c.loop-number.invariant c.in_ok-put_member.ensures

pub returns : goal.returns
returns c =
    finish c.mark-2.result c.mark-2.new.self
    (braces_done (member_words (shape c.args.ty.now)) c.args.numbers.now c.loop-number.number-index c.args.printer.now c.mark.new.self c.loop-number.printer (omega (arith, c.loop-number-test.false)) c.in_ok-mark.ensures c.loop-number.invariant)
    c.mark-2.ensures

use Rattle.std.proofs.Common.{◌-◌, length, arith, ap, sym, ◌∙◌, Some, subst}
use Rattle.xdg_reading.proofs.Walks.{unread_offends, other_offends, taken, left_offends, all_read, shrinks, at_end, within}
use Rattle.xdg_reading.specs.Stages.{OffendsAt}
use Rattle.xdg_reading.proofs.reading.read_lines.Goals as goal

pub returns-in-Err-Offends : goal.returns-in-Err-Offends
returns-in-Err-Offends c = unread_offends _ _ _ _ _ c.lines.invariant (ap (λ n. length c.args.text.now - n) c.len.ensures) (rw c.in-Err-Offends.field-0-is at c.in-Err-Offends.ensures)

pub returns-in-None : goal.returns-in-None
returns-in-None c = other_offends _ _ _ _ _ _ _ c.lines.invariant (ap (λ n. length c.args.text.now - n) c.len.ensures) c.in-Ok.ensures (sym c.in-None.ensures)

pub returns-then-len-eq0 : goal.returns-then-len-eq0
returns-then-len-eq0 c = all_read _ _ _ _ _ _ _ c.lines.invariant (ap (λ n. length c.args.text.now - n) c.len.ensures) c.in-Ok.ensures (sym c.in-Some.ensures ∙ ap Some (at_end c.in-Some.later (sym c.if-has_ended.ensures))) (sym c.len-then-has_ended.ensures ∙ c.if-len-eq0.true)

pub overflow_sub-result : goal.overflow_sub-result
overflow_sub-result c = let small = within _ _ _ _ _ _ _ c.lines.invariant c.in-Ok.ensures in omega (arith, small, c.len-then-has_ended-2.ensures)

pub returns-then-has_ended : goal.returns-then-has_ended
returns-then-has_ended c = subst (λ k. OffendsAt c.args.text.now k) (ap (λ n. length c.args.text.now - n) (sym c.len-then-has_ended-2.ensures)) (left_offends _ _ _ _ _ _ _ c.lines.invariant (ap (λ n. length c.args.text.now - n) c.len.ensures) c.in-Ok.ensures (sym c.in-Some.ensures ∙ ap Some (at_end c.in-Some.later (sym c.if-has_ended.ensures))) (λ e. c.if-len-eq0.false (c.len-then-has_ended.ensures ∙ e)))

pub lines-smaller : goal.lines-smaller
lines-smaller c = shrinks _ _ _ _ c.in-Ok.ensures

pub lines-preserved : goal.lines-preserved
lines-preserved c = taken _ _ _ _ _ _ _ _ _ c.lines.invariant (ap (λ n. length c.args.text.now - n) c.len.ensures) c.in-Ok.ensures (sym c.in-Some.ensures) (sym c.if-has_ended.ensures) c.in_ok-add-in-Some.ensures

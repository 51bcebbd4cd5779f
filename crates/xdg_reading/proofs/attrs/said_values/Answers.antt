use Rattle.std.proofs.Common.{arith, subst, sym, length, ◌≤◌}
use Rattle.xdg_reading.specs.Slots.{asked_by}
use Rattle.xdg_reading.proofs.Turns.{values_extra, values_wrong, values_go, values_short, values_end}
use Rattle.xdg_reading.proofs.attrs.said_values.Goals as goal

pub returns-then-k-slots : goal.returns-then-k-slots
returns-then-k-slots c = values_extra asked_by c.args.behind _ _ _ _ c.loop-k.values _ c.loop-k.invariant c.if-k-slots.true c.loop-k-test.true c.index-lines-k.is

pub overflow_cast-value : goal.overflow_cast-value
overflow_cast-value c = let few = subst (λ z. length z.attr.now.values ≤ 1024) (sym c.index-slots-k.is) (c.requires c.loop-k.k c.index-slots-k.result c.if-k-slots.false) in let small = c.in-Some.ensures.within in omega (arith, few, small)

pub returns-in-None : goal.returns-in-None
returns-in-None c = values_wrong asked_by c.args.behind _ _ _ _ _ c.loop-k.values _ c.loop-k.invariant c.if-k-slots.false c.loop-k-test.true c.index-slots-k.is c.index-lines-k.is c.in-None.ensures.is

pub loop-k-preserved : goal.loop-k-preserved
loop-k-preserved c = values_go asked_by _ _ _ _ _ _ _ _ _ _ c.loop-k.invariant c.if-k-slots.false c.loop-k-test.true c.index-slots-k.is c.index-lines-k.is c.in-Some.ensures.is c.in_ok-push-in-Some.ensures.ok

pub returns-then-lines-slots : goal.returns-then-lines-slots
returns-then-lines-slots c = values_short asked_by c.args.behind _ _ _ c.loop-k.values _ c.loop-k.invariant c.loop-k-test.false c.loop-k.auto.k-end c.if-lines-slots.true

pub returns : goal.returns
returns c = values_end asked_by _ _ _ _ _ _ c.loop-k.invariant c.loop-k-test.false c.if-lines-slots.false

use Rattle.std.proofs.Common.{refl, arith, true, false}
use Rattle.xdg_pagree.specs.Places.{LacksOther}
use Rattle.xdg_graph.specs.Slots.{decision_of}
use Rattle.xdg_graph.proofs.SlotValues.{slot_below, slot_stays}
use Rattle.xdg_pagree.proofs.Sweeping.{loop_end, loop_skip, loop_taken}
use Rattle.xdg_pagree.proofs.taking.keep_common.Goals as goal

pub loop-value-preserved : goal.loop-value-preserved
loop-value-preserved c =
    loop_taken c.args.group.now (λ parts. decision_of parts c.args.slot) (λ parts. LacksOther (decision_of parts c.args.other)) c.loop-value.value true c.args.pass.now c.args.store.now c.loop-value.pass c.loop-value.store c.loop-value.invariant c.if-not-lacks_other.ensures.exact
    c.remove_attr.new.self c.remove_attr.new.store c.requires.group c.requires.takes refl c.remove_attr.ensures.goes c.remove_attr.ensures.known c.remove_attr.ensures.gone

pub returns : goal.returns
returns c =
    loop_end c.args.group.now (λ parts. decision_of parts c.args.slot) (λ parts. LacksOther (decision_of parts c.args.other)) c.loop-value.value c.args.pass.now c.args.store.now c.loop-value.pass c.loop-value.store c.loop-value.invariant
    (λ v has. (let l = slot_below c.loop-value.store c.args.slot v c.loop-value.invariant.known (slot_stays c.loop-value.store.parts c.args.store.now.parts c.args.slot c.loop-value.invariant.goes.extends.same c.requires.slot) has in let n = c.loop-value-test.false in omega (arith, l, n)))

pub loop-value-preserved-then-not-lacks_other : goal.loop-value-preserved-then-not-lacks_other
loop-value-preserved-then-not-lacks_other c = loop_skip c.args.group.now (λ parts. decision_of parts c.args.slot) (λ parts. LacksOther (decision_of parts c.args.other)) c.loop-value.value false c.args.pass.now c.args.store.now c.loop-value.pass c.loop-value.store c.loop-value.invariant c.if-not-lacks_other.ensures.exact refl

use Rattle.std.proofs.Common.{refl, arith, true, false}
use Rattle.xdg_problem.specs.Boxes.{entry_decision}
use Rattle.xdg_pagree.specs.Places.{LacksValue}
use Rattle.xdg_graph.specs.Slots.{decision_of}
use Rattle.xdg_graph.proofs.Remaining.{entry_loop_end}
use Rattle.xdg_pagree.proofs.Sweeping.{loop_end, loop_skip, loop_taken}
use Rattle.xdg_pagree.proofs.taking.keep_useful.Goals as goal

pub loop-place-preserved : goal.loop-place-preserved
loop-place-preserved c =
    loop_taken c.args.group.now (λ parts. entry_decision c.args.node.0) (λ parts. LacksValue c.args.group.now c.args.node.0 (decision_of parts c.args.slot)) c.loop-place.place true c.args.pass.now c.args.store.now c.loop-place.pass c.loop-place.store c.loop-place.invariant c.if-not-lacks_value.ensures.exact
    c.remove_entry.new.self c.remove_entry.new.store c.requires.group c.requires.takes refl c.remove_entry.ensures.goes c.remove_entry.ensures.known c.remove_entry.ensures.gone

pub returns : goal.returns
returns c =
    loop_end c.args.group.now (λ parts. entry_decision c.args.node.0) (λ parts. LacksValue c.args.group.now c.args.node.0 (decision_of parts c.args.slot)) c.loop-place.place c.args.pass.now c.args.store.now c.loop-place.pass c.loop-place.store c.loop-place.invariant
    (λ v has. entry_loop_end c.args.store.now c.loop-place.store c.problem.result.now c.parts.result.now c.args.node.0 v c.entry_count-place-end.result c.loop-place.place c.loop-place.invariant.known c.loop-place.invariant.goes.extends.same c.requires.node c.parts.ensures.same c.problem.ensures.parts c.entry_count-place-end.ensures.count (let n = c.loop-place-test.false in omega (arith, n)) has)

pub loop-place-preserved-then-not-lacks_value : goal.loop-place-preserved-then-not-lacks_value
loop-place-preserved-then-not-lacks_value c = loop_skip c.args.group.now (λ parts. entry_decision c.args.node.0) (λ parts. LacksValue c.args.group.now c.args.node.0 (decision_of parts c.args.slot)) c.loop-place.place false c.args.pass.now c.args.store.now c.loop-place.pass c.loop-place.store c.loop-place.invariant c.if-not-lacks_value.ensures.exact refl

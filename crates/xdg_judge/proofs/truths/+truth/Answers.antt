use Rattle.std.proofs.Common.{rules, arith, true, false, ap, ◌∙◌}
use Rattle.xdg_problem.specs.declared.formula.Formula.TheViews.{the_lemmas}
use Rattle.xdg_problem.specs.Truths.{stands}
use Rattle.xdg_problem.proofs.Bindings.{nodes_inside}
use Rattle.xdg_problem.proofs.Claimed.{claim_and, claim_or, claim_every, claim_any}
use Rattle.xdg_problem.specs.Claims.{claim}
use Rattle.xdg_judge.proofs.Formed.{several_turn, several_refused, several_end, over_turn, over_refused, over_end}
use Rattle.xdg_judge.proofs.truths.+truth.Goals as goal

-- conjunctions

pub returns-then-not-is_true : goal.returns-then-not-is_true
returns-then-not-is_true t c =
    several_refused c.args.parts.now c.args.analysis.now (stands c.args.binding.now) true c.args.formula.now c.in-And.members c.as_slice-member-items.result.now c.loop-member.member-index
    c.member-item.result c.is_true-in-loop-member.result
    (ap claim c.in-And.is ∙ claim_and c.in-And.members) c.as_slice-member-items.ensures c.loop-member-test.true c.member-item.is c.is_true-in-loop-member.ensures c.if-not-is_true.true

pub loop-member-preserved : goal.loop-member-preserved
loop-member-preserved t c =
    several_turn c.args.parts.now c.args.analysis.now (stands c.args.binding.now) true c.as_slice-member-items.result.now c.loop-member.member-index c.member-item.result c.is_true-in-loop-member.result
    c.loop-member-test.true c.member-item.is c.loop-member.invariant c.is_true-in-loop-member.ensures c.if-not-is_true.false

pub returns-after-loop-member : goal.returns-after-loop-member
returns-after-loop-member t c =
    let past = c.loop-member-test.false in
    several_end c.args.parts.now c.args.analysis.now (stands c.args.binding.now) true c.args.formula.now c.in-And.members c.as_slice-member-items.result.now c.loop-member.member-index
    (ap claim c.in-And.is ∙ claim_and c.in-And.members) c.as_slice-member-items.ensures (omega (arith, past)) c.loop-member.invariant

-- disjunctions

pub returns-then-is_true : goal.returns-then-is_true
returns-then-is_true t c =
    several_refused c.args.parts.now c.args.analysis.now (stands c.args.binding.now) false c.args.formula.now c.in-Or.members c.as_slice-member-items-in-Or.result.now c.loop-member-2.member-index
    c.member-item-in-loop-member-2.result c.is_true-in-loop-member-2.result
    (ap claim c.in-Or.is ∙ claim_or c.in-Or.members) c.as_slice-member-items-in-Or.ensures c.loop-member-2-test.true c.member-item-in-loop-member-2.is c.is_true-in-loop-member-2.ensures c.if-is_true.true

pub loop-member-2-preserved : goal.loop-member-2-preserved
loop-member-2-preserved t c =
    several_turn c.args.parts.now c.args.analysis.now (stands c.args.binding.now) false c.as_slice-member-items-in-Or.result.now c.loop-member-2.member-index c.member-item-in-loop-member-2.result c.is_true-in-loop-member-2.result
    c.loop-member-2-test.true c.member-item-in-loop-member-2.is c.loop-member-2.invariant c.is_true-in-loop-member-2.ensures c.if-is_true.false

pub returns-after-loop-member-2 : goal.returns-after-loop-member-2
returns-after-loop-member-2 t c =
    let past = c.loop-member-2-test.false in
    several_end c.args.parts.now c.args.analysis.now (stands c.args.binding.now) false c.args.formula.now c.in-Or.members c.as_slice-member-items-in-Or.result.now c.loop-member-2.member-index
    (ap claim c.in-Or.is ∙ claim_or c.in-Or.members) c.as_slice-member-items-in-Or.ensures (omega (arith, past)) c.loop-member-2.invariant

-- every node

pub is_true-requires-in-loop-node : goal.is_true-requires-in-loop-node
is_true-requires-in-loop-node t c =
    let count = c.len-node-end.ensures in
    let less = c.loop-node-test.true in
    (search (rules, the_lemmas), (c.requires.ready, nodes_inside c.args.parts.now (stands c.args.binding.now) (stands c.bind-inside.result) c.in-Every.name c.loop-node.node c.bind-inside.ensures c.requires.nodes (omega (arith, count, less, c.requires.ready.problem.most))))

pub returns-then-not-is_true-2 : goal.returns-then-not-is_true-2
returns-then-not-is_true-2 t c =
    let count = c.len-node-end.ensures in
    let less = c.loop-node-test.true in
    over_refused c.args.parts.now c.args.analysis.now (stands c.args.binding.now) true c.args.formula.now c.in-Every.name c.in-Every.inner c.get-in-loop-node.result.now c.loop-node.node
    (stands c.bind-inside.result) c.is_true-in-loop-node.result
    (ap claim c.in-Every.is ∙ claim_every c.in-Every.name c.in-Every.inner) c.get-in-loop-node.ensures (omega (arith, count, less, c.requires.ready.problem.most)) c.bind-inside.ensures
    c.is_true-in-loop-node.ensures c.if-not-is_true-2.true

pub loop-node-preserved : goal.loop-node-preserved
loop-node-preserved t c =
    over_turn c.args.parts.now c.args.analysis.now (stands c.args.binding.now) true c.args.formula.now c.in-Every.name c.in-Every.inner c.get-in-loop-node.result.now c.loop-node.node
    (stands c.bind-inside.result) c.is_true-in-loop-node.result
    c.loop-node.invariant c.get-in-loop-node.ensures c.bind-inside.ensures c.is_true-in-loop-node.ensures c.if-not-is_true-2.false

pub returns-after-loop-node : goal.returns-after-loop-node
returns-after-loop-node t c =
    let count = c.len-node-end.ensures in
    let past = c.loop-node-test.false in
    over_end c.args.parts.now c.args.analysis.now (stands c.args.binding.now) true c.args.formula.now c.in-Every.name c.in-Every.inner c.loop-node.node
    (ap claim c.in-Every.is ∙ claim_every c.in-Every.name c.in-Every.inner) (omega (arith, count, past, c.requires.ready.problem.most)) c.loop-node.invariant

-- some node

pub is_true-requires-in-loop-node-2 : goal.is_true-requires-in-loop-node-2
is_true-requires-in-loop-node-2 t c =
    let count = c.len-node-end-in-Any.ensures in
    let less = c.loop-node-2-test.true in
    (search (rules, the_lemmas), (c.requires.ready, nodes_inside c.args.parts.now (stands c.args.binding.now) (stands c.bind-inside-in-loop-node-2.result) c.in-Any.name c.loop-node-2.node c.bind-inside-in-loop-node-2.ensures c.requires.nodes (omega (arith, count, less, c.requires.ready.problem.most))))

pub returns-then-is_true-2 : goal.returns-then-is_true-2
returns-then-is_true-2 t c =
    let count = c.len-node-end-in-Any.ensures in
    let less = c.loop-node-2-test.true in
    over_refused c.args.parts.now c.args.analysis.now (stands c.args.binding.now) false c.args.formula.now c.in-Any.name c.in-Any.inner c.get-in-loop-node-2.result.now c.loop-node-2.node
    (stands c.bind-inside-in-loop-node-2.result) c.is_true-in-loop-node-2.result
    (ap claim c.in-Any.is ∙ claim_any c.in-Any.name c.in-Any.inner) c.get-in-loop-node-2.ensures (omega (arith, count, less, c.requires.ready.problem.most)) c.bind-inside-in-loop-node-2.ensures
    c.is_true-in-loop-node-2.ensures c.if-is_true-2.true

pub loop-node-2-preserved : goal.loop-node-2-preserved
loop-node-2-preserved t c =
    over_turn c.args.parts.now c.args.analysis.now (stands c.args.binding.now) false c.args.formula.now c.in-Any.name c.in-Any.inner c.get-in-loop-node-2.result.now c.loop-node-2.node
    (stands c.bind-inside-in-loop-node-2.result) c.is_true-in-loop-node-2.result
    c.loop-node-2.invariant c.get-in-loop-node-2.ensures c.bind-inside-in-loop-node-2.ensures c.is_true-in-loop-node-2.ensures c.if-is_true-2.false

pub returns-after-loop-node-2 : goal.returns-after-loop-node-2
returns-after-loop-node-2 t c =
    let count = c.len-node-end-in-Any.ensures in
    let past = c.loop-node-2-test.false in
    over_end c.args.parts.now c.args.analysis.now (stands c.args.binding.now) false c.args.formula.now c.in-Any.name c.in-Any.inner c.loop-node-2.node
    (ap claim c.in-Any.is ∙ claim_any c.in-Any.name c.in-Any.inner) (omega (arith, count, past, c.requires.ready.problem.most)) c.loop-node-2.invariant

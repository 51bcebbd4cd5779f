use Rattle.std.proofs.Common.{subst, sym, get_or, length, take, ◌≡◌, ◌<◌, ◌+◌}
use Rattle.xdg_problem.specs.Vectors.{attr_sizes}
use Rattle.xdg_stream.proofs.Named.{attr_step, attr_number, attr_in_range, attr_some}
use Rattle.xdg_stream.proofs.decision.attr_at.Goals as goal

pub loop-dim-preserved : goal.loop-dim-preserved
loop-dim-preserved c =
    let l = subst (λ z. c.loop-dim.dim < length z) c.as_slice-plan-items.ensures c.loop-dim-test.true in
    let found = subst (λ z. c.plan-item.result ≡ get_or z c.loop-dim.dim c.plan-item.result) c.as_slice-plan-items.ensures c.plan-item.is in
    attr_step c.args.parts.now.dims c.plan-item.result c.loop-dim.dim c.len-width.result c.len-nodes.result c.loop-dim.rest c.args.at l found c.len-width.ensures c.if-rest-nodes.false c.loop-dim.invariant

pub returns-then-rest-nodes-clause-is : goal.returns-then-rest-nodes-clause-is
returns-then-rest-nodes-clause-is c = attr_in_range c.args.parts.now c.as_slice-plan-items.result.now c.plan-item.result c.loop-dim.dim c.len-width.result c.len-nodes.result c.loop-dim.rest c.as_slice-plan-items.ensures c.len-nodes.ensures c.loop-dim-test.true c.plan-item.is c.len-width.ensures c.if-rest-nodes.true

pub returns-then-rest-nodes-clause-number : goal.returns-then-rest-nodes-clause-number
returns-then-rest-nodes-clause-number c =
    let sum = subst (λ z. c.loop-dim.rest + length (attr_sizes c.len-nodes.result (take c.loop-dim.dim z)) ≡ c.args.at) (sym c.as_slice-plan-items.ensures) c.loop-dim.invariant in
    attr_number c.args.parts.now c.as_slice-plan-items.result.now c.plan-item.result c.loop-dim.dim c.len-width.result c.len-nodes.result c.loop-dim.rest c.args.at c.as_slice-plan-items.ensures c.len-nodes.ensures c.loop-dim-test.true c.plan-item.is c.len-width.ensures sum

pub returns-clause-number : goal.returns-clause-number
returns-clause-number c =
    let sum = subst (λ z. c.loop-dim.rest + length (attr_sizes c.len-nodes.result (take c.loop-dim.dim z)) ≡ c.args.at) (sym c.as_slice-plan-items.ensures) c.loop-dim.invariant in
    absurd (attr_some c.args.parts.now c.as_slice-plan-items.result.now c.len-nodes.result c.loop-dim.dim c.loop-dim.rest c.args.at c.as_slice-plan-items.ensures c.len-nodes.ensures c.loop-dim-test.false c.requires.within sum)

use Rattle.std.proofs.Common.{◌≡◌, ◌<◌, ◌*◌, length, get_or, subst, ap, sym, ◌∙◌}
use Rattle.std.specs.Prelude.{◌%◌}
use Rattle.xdg_problem.specs.declared.parts.AttrPlan.{AttrPlan}
use Rattle.xdg_problem.proofs.ValueCounts.{found_here, further_on}
use Rattle.xdg_problem.proofs.sizes.of_attr.Goals as goal

pub returns-then-rest-nodes : goal.returns-then-rest-nodes
returns-then-rest-nodes c =
    let a = subst (λ w. c.index-as_slice-rest.result ≡ get_or c.plan-item.result.attrs (c.loop-plan.rest % w) c.index-as_slice-rest.result) c.len-width.ensures
    (subst (λ z. c.index-as_slice-rest.result ≡ get_or z (c.loop-plan.rest % c.len-width.result) c.index-as_slice-rest.result) c.as_slice.ensures c.index-as_slice-rest.is) in
    c.len.ensures ∙ ap (λ (z : AttrPlan). length z.values) (sym c.index-as_slice-rest.is)
    ∙ found_here c.args.nodes c.loop-plan.plan-index c.loop-plan.rest c.args.dims.now c.plan-item.result c.index-as_slice-rest.result c.loop-plan-test.true c.plan-item.is
    (subst (λ w. c.loop-plan.rest < c.args.nodes * w) c.len-width.ensures c.if-rest-nodes.true) a
    ∙ c.loop-plan.invariant

pub loop-plan-preserved : goal.loop-plan-preserved
loop-plan-preserved c =
    further_on c.args.nodes c.loop-plan.plan-index c.loop-plan.rest (c.args.nodes * c.len-width.result) c.args.dims.now c.plan-item.result c.loop-plan-test.true c.plan-item.is (ap (λ w. c.args.nodes * w) c.len-width.ensures) c.if-rest-nodes.false
    ∙ c.loop-plan.invariant

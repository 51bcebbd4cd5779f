use Rattle.std.proofs.Common.{◌≤◌, length, subst, sym, arith, map, List}
use Rattle.std.proofs.lemmas.Bool.{false≢true}
use Rattle.xdg_facts.specs.Fits.{Fits}
use Rattle.xdg_problem.specs.declared.parts.AttrPlan.{AttrPlan}
use Rattle.xdg_problem.proofs.FitSteps.{dim_step, dim_refused}
use Rattle.xdg_problem.proofs.fitting.dim_fits.Goals as goal
use Rattle.xdg_facts.proofs.Facts.{both_steps}
use Rattle.xdg_facts.proofs.Numbers.{wide_enough, left_after}
use Rattle.xdg_facts.proofs.Truths.{refuses, accepts}

pub returns-then-not-node_fits : goal.returns-then-not-node_fits
returns-then-not-node_fits c =
    let wide : c.len.result ≤ length c.loop-node.rest.now = (let h = wide_enough c.args.nodes c.loop-node._node (length c.args.plan.now.attrs) (length c.loop-node.rest.now) c.loop-node.invariant.left c.loop-node-test.true in omega (arith, h, c.len.ensures)) in (
      λ e. absurd (false≢true e),
      λ h. absurd (dim_refused c.args.plan.now c.args.nodes c.loop-node._node c.len.result c.loop-node.rest.now c.split_at.result.0.now c.loop-node-test.true c.len.ensures wide c.split_at.ensures.front
          (λ f. refuses c.node_fits.result c.if-not-node_fits.true c.node_fits.ensures (subst (λ (z : List AttrPlan). Fits (map (λ (attr : AttrPlan). length attr.values) z) c.split_at.result.0.now) (sym c.as_slice.ensures) f))
          (c.loop-node.invariant.rest.1 h)),
    )

pub loop-node-preserved : goal.loop-node-preserved
loop-node-preserved c =
    let wide : c.len.result ≤ length c.loop-node.rest.now = (let h = wide_enough c.args.nodes c.loop-node._node (length c.args.plan.now.attrs) (length c.loop-node.rest.now) c.loop-node.invariant.left c.loop-node-test.true in omega (arith, h, c.len.ensures)) in
    record {
      left = left_after c.args.nodes c.loop-node._node (length c.args.plan.now.attrs) (length c.loop-node.rest.now) (length c.split_at.result.1.now) c.loop-node.invariant.left c.loop-node-test.true (omega (arith, c.split_at.ensures.back_len, c.len.ensures));
      rest = both_steps
          (dim_step c.args.plan.now c.args.nodes c.loop-node._node c.len.result c.loop-node.rest.now c.split_at.result.0.now c.split_at.result.1.now c.loop-node-test.true c.len.ensures wide c.split_at.ensures.front c.split_at.ensures.back
          (subst (λ (z : List AttrPlan). Fits (map (λ (attr : AttrPlan). length attr.values) z) c.split_at.result.0.now) c.as_slice.ensures (accepts c.node_fits.result c.if-not-node_fits.false c.node_fits.ensures)))
          c.loop-node.invariant.rest;
    }

use Rattle.std.proofs.Common.{◌*◌, ap}
use Rattle.std.proofs.lemmas.Bool.{false≢true}
use Rattle.xdg_problem.proofs.FitSteps.{values_step, values_refused}
use Rattle.xdg_problem.proofs.fitting.values_fit.Goals as goal
use Rattle.xdg_facts.proofs.Facts.{both_steps}
use Rattle.xdg_facts.proofs.Truths.{refuses, accepts}

pub returns-then-not-dim_fits : goal.returns-then-not-dim_fits
returns-then-not-dim_fits c = (
  λ e. absurd (false≢true e),
  λ h. absurd (values_refused c.args.dims.now c.args.nodes (c.args.nodes * c.len.result) c.loop-plan.plan-index c.plan-item.result c.loop-plan.rest.now c.split_at.result.0.now c.loop-plan-test.true c.plan-item.is (ap (λ i. c.args.nodes * i) c.len.ensures) c.if-rest-width.false c.split_at.ensures.front
      (λ f. refuses c.dim_fits.result c.if-not-dim_fits.true c.dim_fits.ensures f)
      (c.loop-plan.invariant.1 h)),
)

pub loop-plan-preserved : goal.loop-plan-preserved
loop-plan-preserved c = both_steps
    (values_step c.args.dims.now c.args.nodes (c.args.nodes * c.len.result) c.loop-plan.plan-index c.plan-item.result c.loop-plan.rest.now c.split_at.result.0.now c.split_at.result.1.now c.loop-plan-test.true c.plan-item.is (ap (λ i. c.args.nodes * i) c.len.ensures) c.if-rest-width.false c.split_at.ensures.front c.split_at.ensures.back
    (accepts c.dim_fits.result c.if-not-dim_fits.false c.dim_fits.ensures))
    c.loop-plan.invariant

use Rattle.std.proofs.Common.{arith}
use Rattle.xdg_searches.specs.Branched.{branch_job}
use Rattle.xdg_searches.proofs.Branching.{jobs_more, jobs_none}
use Rattle.xdg_searches.proofs.jobs.branch_jobs.Goals as goal

pub loop-place-init : goal.loop-place-init
loop-place-init c = (omega arith, c.requires.order, jobs_none (branch_job c.args.problem.now c.args.budget c.args.first) c.args.from c.new-jobs.result c.new-jobs.ensures)

pub loop-place-preserved : goal.loop-place-preserved
loop-place-preserved c =
    let below = c.loop-place.invariant.0 in
    let within = c.loop-place-test.true in (
      omega (arith, below),
      omega (arith, within),
      jobs_more (branch_job c.args.problem.now c.args.budget c.args.first) c.args.from c.loop-place.place c.in_ok-branch_job.field-0 c.loop-place.jobs c.push.new.self below c.loop-place.invariant.2 c.in_ok-branch_job.ensures c.in_ok-push.ensures.ok,
    )

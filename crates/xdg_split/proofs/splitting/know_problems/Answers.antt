use Rattle.std.proofs.Common.{◌≡◌, get_or, rules, subst}
use Rattle.std.proofs.lemmas.List.{take_all}
use Rattle.std.proofs.lemmas.List.Elements.{All-more}
use Rattle.xdg_problem.specs.Problems.{IsProblem}
use Rattle.xdg_split.specs.Asked.{Asked}
use Rattle.xdg_split.specs.Splits.{AreProblems}
use Rattle.xdg_split.proofs.splitting.know_problems.Goals as goal

pub loop-job-preserved : goal.loop-job-preserved
loop-job-preserved g c =
    let is : c.job-item.result ≡ get_or c.args.jobs.now c.loop-job.job-index c.job-item.result = search rules in
    All-more (λ (job : Asked). IsProblem job.parts) c.args.jobs.now c.loop-job.job-index c.job-item.result c.loop-job-test.true c.loop-job.invariant (subst (λ (job : Asked). IsProblem job.parts) is c.know_problem.ensures)

pub returns : goal.returns
returns g c = subst AreProblems (take_all c.loop-job.job-index c.args.jobs.now c.loop-job-test.false) c.loop-job.invariant

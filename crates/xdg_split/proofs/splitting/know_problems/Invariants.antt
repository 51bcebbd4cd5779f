use Rattle.std.proofs.Common.{take}
use Rattle.xdg_split.specs.Splits.{AreProblems}
use Rattle.xdg_split.proofs.splitting.know_problems.Given as goal

abbrev pub invariant-loop-job : goal.invariant-loop-job
invariant-loop-job g l = AreProblems (take l.job-index l.jobs)

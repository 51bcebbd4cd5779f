use Rattle.std.proofs.Common.{◌≡◌, ◌≤◌, ◌-◌}
use Rattle.xdg_searches.specs.Branched.{jobs_from}
use Rattle.xdg_searches.proofs.jobs.branch_jobs.Given as goal

abbrev pub invariant-loop-place : goal.invariant-loop-place
invariant-loop-place l = (l.from ≤ l.place) × (l.place ≤ l.to) × (l.jobs ≡ jobs_from l.problem l.budget l.first l.from (l.place - l.from))

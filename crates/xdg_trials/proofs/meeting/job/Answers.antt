use Rattle.std.proofs.Common.{refl}
use Rattle.std.specs.Prelude.{None}
use Rattle.xdg_trials.proofs.AloneProblem.{alone_job}
use Rattle.xdg_trials.proofs.meeting.job.Goals as goal

pub of-requires : goal.of-requires
of-requires c = alone_job _ c.in_ok-props.props c.in_ok-problem.problem 10 None c.in_ok-props.ensures c.in_ok-problem.ensures refl refl

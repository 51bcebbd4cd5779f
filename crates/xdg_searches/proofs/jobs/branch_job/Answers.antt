use Rattle.xdg_searches.proofs.Branching.{is_job}
use Rattle.xdg_searches.proofs.jobs.branch_job.Goals as goal

pub of-requires : goal.of-requires
of-requires c = is_job _ c.in_ok-propagators.propagators c.in_ok-branch.branch c.args.budget c.args.first c.requires.range c.in_ok-propagators.ensures.stand

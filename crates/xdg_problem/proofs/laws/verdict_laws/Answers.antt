use Rattle.xdg_problem.proofs.Lawful.{verdict_is_one}
use Rattle.xdg_problem.proofs.laws.verdict_laws.Goals as goal

pub returns : goal.returns
returns c = verdict_is_one

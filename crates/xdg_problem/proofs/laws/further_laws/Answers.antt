use Rattle.xdg_problem.proofs.FurtherLawful.{rules_lawful, bound_lawful}
use Rattle.xdg_problem.proofs.laws.further_laws.Goals as goal

pub returns : goal.returns
returns c = record { rules = rules_lawful; bound = bound_lawful }

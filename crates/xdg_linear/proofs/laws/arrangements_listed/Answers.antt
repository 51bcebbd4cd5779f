use Rattle.xdg_linear.proofs.Existing.{are_listed}
use Rattle.xdg_linear.proofs.laws.arrangements_listed.Goals as goal

pub returns-clause-listed : goal.returns-clause-listed
returns-clause-listed c = are_listed

use Rattle.xdg_problem.proofs.BranchSolutions.{branch_laws}
use Rattle.xdg_problem.proofs.laws.branch_laws.Goals as goal

pub returns-clause-each : goal.returns-clause-each
returns-clause-each c = branch_laws

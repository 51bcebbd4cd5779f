use Rattle.xdg_problem.proofs.Lawful.{solutions_lawful}
use Rattle.xdg_problem.proofs.laws.solution_laws.Goals as goal

pub returns : goal.returns
returns c = λ parts start problem. solutions_lawful parts problem start

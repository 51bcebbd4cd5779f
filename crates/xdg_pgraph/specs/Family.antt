-- The principles of this family.
use Rattle.xdg_problem.specs.declared.parts.Group.{Group}
use Rattle.xdg_problem.specs.declared.parts.Parts.{Parts}
use Rattle.xdg_problem.specs.declared.parts.Principle.{Principle}
use Rattle.xdg_problem.specs.Principles.{IsOf}
use Rattle.xdg_problem.specs.declared.principles.PrincipleFamily.TheVariants as families
use Rattle.xdg_pgraph.specs.declared.graph_prop.Graph.{Graph}
use Rattle.xdg_pgraph.specs.Allowances.{AreAllowances}

-- those that look at the edges of one dimension, beside entries at most
abbrev pub IsOfFamily : Principle → Type 0
IsOfFamily principle = IsOf families.Graph principle

-- what is kept of a use is what the entries of its nodes allow
abbrev pub KeepsAllowances : Graph → Parts → Group → Type 0
KeepsAllowances kept parts group = AreAllowances parts group kept.allowances

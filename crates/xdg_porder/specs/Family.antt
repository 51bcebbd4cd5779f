-- Order and projectivity.
use Rattle.xdg_problem.specs.declared.parts.Principle.{Principle}
use Rattle.xdg_problem.specs.Principles.{IsOf}
use Rattle.xdg_problem.specs.declared.principles.PrincipleFamily.TheVariants as families

-- the principles of this family
abbrev pub IsOfFamily : Principle → Type 0
IsOfFamily principle = IsOf families.Order principle

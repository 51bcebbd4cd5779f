-- The principles of two dimensions that ask for paths.
use Rattle.xdg_problem.specs.declared.parts.Principle.{Principle}
use Rattle.xdg_problem.specs.Principles.{IsOf}
use Rattle.xdg_problem.specs.declared.principles.PrincipleFamily.TheVariants as families

-- climbing and barriers
abbrev pub IsOfFamily : Principle → Type 0
IsOfFamily principle = IsOf families.Multi principle

-- The linking principles.
use Rattle.xdg_problem.specs.declared.parts.Principle.{Principle}
use Rattle.xdg_problem.specs.Principles.{HasWay, IsOf, linking_of}
use Rattle.xdg_problem.specs.declared.principles.PrincipleFamily.TheVariants as families

-- those that ask for edges of the second dimension
abbrev pub Reaches : Principle → Type 0
Reaches principle = HasWay (linking_of principle)

-- all of them
abbrev pub IsLinking : Principle → Type 0
IsLinking principle = IsOf families.Link principle

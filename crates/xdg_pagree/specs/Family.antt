-- The principles agr, agreement and government.
use Rattle.xdg_problem.specs.declared.parts.Principle.{Principle}
use Rattle.xdg_problem.specs.declared.parts.Principle.TheVariants as principles
use Rattle.xdg_problem.specs.Principles.{IsOf}
use Rattle.xdg_problem.specs.declared.principles.PrincipleFamily.TheVariants as families

-- the principles of this family
abbrev pub IsOfFamily : Principle → Type 0
IsOfFamily principle = IsOf families.Agree principle

-- those of them that say something of edges
abbrev pub IsOfPlaces : Principle → Type 0
IsOfPlaces principles.Agreement = Unit {0}
IsOfPlaces principles.Government = Unit {0}
IsOfPlaces principle = ⊥

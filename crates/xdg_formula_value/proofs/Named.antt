-- A rule looks at all decisions.
use Rattle.xdg_problem.specs.declared.parts.Principle.{Principle}
use Rattle.xdg_problem.specs.declared.parts.Principle.TheVariants as principles
use Rattle.xdg_propcore.specs.Kinds.{LooksAtAll}
use Rattle.xdg_formula_value.specs.Standing.{IsRule}

pub looks_at_all : (p : Principle) → IsRule p → LooksAtAll p
looks_at_all (principles.Rule formula) is = tt
looks_at_all p is = absurd is

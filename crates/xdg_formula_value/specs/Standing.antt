-- For which principle uses a propagator stands, by what it keeps.
use Rattle.std.specs.Prelude.{◌≡◌, ℕ}
use Rattle.xdg_problem.specs.declared.parts.Parts.{Parts}
use Rattle.xdg_problem.specs.declared.parts.Principle.{Principle}
use Rattle.xdg_problem.specs.declared.parts.Principle.TheVariants as principles
use Rattle.xdg_problem.specs.Principles.{IsOf}
use Rattle.xdg_problem.specs.declared.principles.PrincipleFamily.TheVariants as families
use Rattle.xdg_problem.specs.Claims.{claim}
use Rattle.xdg_propcore.specs.Uses.{use_at}
use Rattle.xdg_formula_value.specs.ClaimKinds.{HasKinds}
use Rattle.xdg_formula_value.specs.declared.rule_prop.RuleProp.{RuleProp}

-- the principle is a rule
abbrev pub IsRule : Principle → Type 0
IsRule principle = IsOf families.Rule principle

-- the wake set has the kinds at which the formula of a rule looks
abbrev pub HasKindsOf : Principle → ℕ → Type 0
HasKindsOf (principles.Rule formula) wakes = HasKinds (claim formula) wakes
HasKindsOf principle wakes = Unit {0}

-- the number is that of a use of a rule, and the wake set is for it; mine is the propagator's own number
pub record StandsAt (mine wakes : ℕ) (parts : Parts) (number : ℕ) : Type 0 where
  pub number_is : number ≡ mine
  pub rule : IsRule (use_at parts number).principle
  pub kinds : HasKindsOf (use_at parts number).principle wakes

-- for its own number, where it is one of a use of a rule whose kinds it keeps
abbrev pub stands_for : RuleProp → Parts → ℕ → Type 0
stands_for p = StandsAt p.number p.wakes.0

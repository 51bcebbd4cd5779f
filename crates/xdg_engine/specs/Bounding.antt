-- For which principle uses the propagator of a bound stands, by what it keeps.
use Rattle.std.specs.Prelude.{◌≡◌, ℕ, List}
use Rattle.xdg_problem.specs.declared.parts.Parts.{Parts}
use Rattle.xdg_problem.specs.declared.parts.Principle.{Principle}
use Rattle.xdg_problem.specs.declared.parts.Principle.TheVariants as principles
use Rattle.xdg_problem.specs.Principles.{IsOf}
use Rattle.xdg_problem.specs.declared.principles.PrincipleFamily.TheVariants as families
use Rattle.xdg_propcore.specs.Uses.{use_at}
use Rattle.xdg_engine.specs.CostRows.{entry_rows, AreLabelCosts}
use Rattle.xdg_engine.specs.declared.cost_prop.CostProp.{CostProp}

-- the principle is a bound
abbrev pub IsBound : Principle → Type 0
IsBound principle = IsOf families.Bound principle

-- the number is that of a bound, and the rows have its costs
abbrev pub HoldsBound : Principle → Parts → ℕ → List (List ℕ) → List (List ℕ) → Type 0
HoldsBound (principles.Bound costs bound) parts mine entries labels = (mine ≡ bound) × (entries ≡ entry_rows costs parts) × AreLabelCosts costs labels
HoldsBound principle parts mine entries labels = ⊥

-- the number is that of a use of a bound whose costs the rows have; mine is the propagator's own number
pub record BoundAt (mine bound : ℕ) (entries labels : List (List ℕ)) (parts : Parts) (number : ℕ) : Type 0 where
  pub number_is : number ≡ mine
  pub holds : HoldsBound (use_at parts number).principle parts bound entries labels

-- for its own number, where it is one of a use of a bound that it keeps
abbrev pub bound_stands : CostProp → Parts → ℕ → Type 0
bound_stands p = BoundAt p.number p.bound p.entries p.labels

-- For which principle uses a propagator of a family stands.
use Rattle.std.specs.Prelude.{ℕ}
use Rattle.xdg_problem.specs.declared.parts.Group.{Group}
use Rattle.xdg_problem.specs.declared.parts.Parts.{Parts}
use Rattle.xdg_problem.specs.declared.parts.Principle.{Principle}
use Rattle.xdg_propcore.specs.Families.{StandsAt}
use Rattle.xdg_propcore.specs.declared.use_prop.UseProp.{UseProp}

-- for its own number, where it is one of a principle of the family whose kinds it keeps, and what the family keeps is of it
abbrev pub stands_for : {F : Type 0} → (Principle → Type 0) → (F → Parts → Group → Type 0) → UseProp F → Parts → ℕ → Type 0
stands_for Holds Fits p = StandsAt Holds (Fits p.family) p.number p.wakes.0

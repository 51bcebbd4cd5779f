-- Why no value can be wrong once the arguments are right.
use Rattle.std.specs.Prelude.{◌≡◌, ℕ, List, [], Some}
use Rattle.xdg_base.specs.declared.faults.Fault.{Fault}
use Rattle.xdg_domain.specs.Shapes.{Shape}
use Rattle.xdg_terms.specs.Forms.{Term, Bindings, bound_to}
use Rattle.xdg_terms.specs.Offences.{OpenOffends}
use Rattle.xdg_terms.specs.Wanted.{params_in}
use Rattle.xdg_facts.specs.Membership.{In}

-- nothing is wrong with the term, in which these parameters are open
abbrev pub IsOpenRight : List (List ℕ) → Shape → Term → Type 0
IsOpenRight free s t = (f : Fault) → OpenOffends free s t f → ⊥

-- Each open parameter in the term is bound, to a term without parameters with which nothing is wrong where the parameter
-- stands.
abbrev pub AreBoundRight : List (List ℕ) → Bindings → Shape → Term → Type 0
AreBoundRight free bs s t = (param : List ℕ) (u : Shape) → In (params_in free s t) (param, u) → (b : Term) × ((bound_to bs param ≡ Some b) × IsOpenRight [] u b)

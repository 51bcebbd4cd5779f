-- Uses that close a cycle.
use Rattle.std.specs.Prelude.{◌≡◌, ℕ, List, length, slice_index_or}
use Rattle.xdg_base.specs.declared.faults.Fault.{Fault}
use Rattle.xdg_base.specs.declared.faults.Cause.TheVariants as causes
use Rattle.xdg_names.specs.First.{Below}
use Rattle.xdg_names.specs.declared.graph.Use.{Use}
use Rattle.xdg_names.specs.Leads.{uses_of, Leads, number}
use Rattle.xdg_facts.specs.Membership.{In}
use Rattle.xdg_base.specs.Faults.{fault_at}

-- the fault at a use that closes a cycle
abbrev pub fault_of : Use → Fault
fault_of u = fault_at causes.Cycle u.at

-- a use that stands in a definition to which it leads back
pub record IsClosing (g : List (List Use)) (f : Fault) : Type 0 where
  pub from : ℕ
  pub closing : Use
  pub stands : In (uses_of g from) closing
  pub back : Leads g closing.to from
  pub fault : f ≡ fault_of closing

abbrev pub the_use : List Use → ℕ → Use
the_use us k = slice_index_or us k (record { to = 0; at = 0 })

-- this use leads to a definition of the number n
abbrev pub Meets : List ℕ → ℕ → Use → Fault → Type 0
Meets numbers n u f = (number numbers u.to ≡ n) × (f ≡ fault_of u)

-- one of these uses does
abbrev pub HasMeeting : List ℕ → ℕ → List Use → Fault → Type 0
HasMeeting numbers n us f = Below (λ k. Meets numbers n (the_use us k)) (length us) f

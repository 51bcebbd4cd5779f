-- Sets of nodes as what is so at each node of a sentence, and bindings as tables.
use Rattle.std.specs.Prelude.{◌≡◌, ◌⊎◌, ◌↔◌, ℕ, ◌<◌, ◌&&◌, Bool, true, false, not, List}
use Rattle.xdg_facts.specs.Rises.{has}

-- of the first nodes, the set has those at which something is so
abbrev pub IsRow : ℕ → (ℕ → Type 0) → List ℕ → Type 0
IsRow n P set = (v : ℕ) → v < n → (has set v ≡ true) ↔ P v

-- of some nodes, the set has those at which something is so
abbrev pub IsRowOn : List ℕ → (ℕ → Type 0) → List ℕ → Type 0
IsRowOn care P set = (v : ℕ) → has care v ≡ true → (has set v ≡ true) ↔ P v

-- of some nodes, the set has each at which something is so for some further node
abbrev pub Bounds : List ℕ → (ℕ → ℕ → Type 0) → List ℕ → Type 0
Bounds care P set = (v node : ℕ) → has care v ≡ true → P v node → has set v ≡ true

-- the set has those of the first nodes at which something is so, and no others
abbrev pub HasFirst : ℕ → (ℕ → Type 0) → List ℕ → Type 0
HasFirst k P set = (v : ℕ) → (has set v ≡ true) ↔ ((v < k) × P v)

-- both, or one or the other
abbrev pub Joined : Bool → Type 0 → Type 0 → Type 0
Joined true P Q = P × Q
Joined false P Q = P ⊎ Q

-- at each of the first nodes, or at one or more of them
abbrev pub Over : Bool → ℕ → (ℕ → Type 0) → Type 0
Over true n P = (v : ℕ) → v < n → P v
Over false n P = (v : ℕ) × (v < n) × P v

-- the nodes of a set are among the first
abbrev pub AreFirst : ℕ → List ℕ → Type 0
AreFirst n set = (v : ℕ) → has set v ≡ true → v < n

-- those of some nodes at which two together are still open, where the first is a set
abbrev pub open_in : Bool → List ℕ → List ℕ → ℕ → Bool
open_in true care set v = has care v && has set v
open_in false care set v = has care v && not (has set v)

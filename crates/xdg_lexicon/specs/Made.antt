-- Records made feature after feature.
use Rattle.std.specs.Prelude.{◌≡◌, ℕ, ◌<◌, ◌≤◌, List, [], ◌∷◌, ◌++◌, Option, None, Some}
use Rattle.xdg_domain.specs.Keys.{KeysBelow}
use Rattle.xdg_domain.specs.Valencies.{said_at, KeysRise}

-- what is said of a key, if anything is
abbrev pub entry : {V : Type 0} → ℕ → Option V → List (ℕ × V)
entry key None = []
entry key (Some v) = (key, v) ∷ []

-- Of each key from the first on and below the bound the list says what P asks for, and of no other.
pub record IsMade {V : Type 0} (P : ℕ → Option V → Type 0) (first bound : ℕ) (made : List (ℕ × V)) : Type 0 where
  pub rises : KeysRise first made
  pub below : KeysBelow bound made
  pub each : (key : ℕ) → first ≤ key → key < bound → P key (said_at made key)

-- the last that the list says is said of this key
abbrev pub EndsAt : {V : Type 0} → List (ℕ × V) → ℕ → Type 0
EndsAt {V} s key = (rest : List (ℕ × V)) × ((x : V) × (s ≡ rest ++ (key, x) ∷ []))

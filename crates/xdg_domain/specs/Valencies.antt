-- Cardinalities by key: a list of keys with what each allows, its keys rising.
use Rattle.std.specs.Prelude.{◌≡◌, ℕ, ◌≤◌, ◌+◌, ◌==◌, List, [], ◌∷◌, Option, None, Some, cond}
use Rattle.xdg_domain.specs.Cards.{common}

-- what the list says of the key
abbrev pub said_at : {V : Type 0} → List (ℕ × V) → ℕ → Option V
said_at [] key = None
said_at (entry ∷ s) key = cond (entry.0 == key) (Some entry.1) (said_at s key)

-- the keys rise strictly, from low on
abbrev pub KeysRise : {V : Type 0} → ℕ → List (ℕ × V) → Type 0
KeysRise low [] = Unit {0}
KeysRise low (entry ∷ s) = (low ≤ entry.0) × KeysRise (entry.0 + 1) s

-- what both say together of a key: what one alone says, or the numbers that both allow
abbrev pub both_say : Option (List ℕ) → Option (List ℕ) → Option (List ℕ)
both_say None b = b
both_say (Some s) None = Some s
both_say (Some s) (Some t) = Some (common s t)

-- both say something of the key, and allow no number in common
abbrev pub Clash : Option (List ℕ) → Option (List ℕ) → Type 0
Clash None b = ⊥
Clash (Some s) None = ⊥
Clash (Some s) (Some t) = common s t ≡ []

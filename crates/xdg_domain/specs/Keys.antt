-- Lists of keys with what is said of them, key after key.
use Rattle.std.specs.Prelude.{ℕ, ◌<◌, List, [], ◌∷◌}

-- each key is below the bound
abbrev pub KeysBelow : {V : Type 0} → ℕ → List (ℕ × V) → Type 0
KeysBelow bound [] = Unit {0}
KeysBelow bound (entry ∷ s) = (entry.0 < bound) × KeysBelow bound s

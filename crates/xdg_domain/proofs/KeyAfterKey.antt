-- Lists of keys with what is said of them, made key after key.
use Rattle.std.proofs.Common.{ℕ, ◌≤◌, ◌+◌, List, [], ◌∷◌, ◌++◌, arith}
use Rattle.xdg_domain.specs.Valencies.{KeysRise}
use Rattle.xdg_domain.specs.Keys.{KeysBelow}

rises_on : {V : Type 0} (s : List (ℕ × V)) (low key : ℕ) (x : V) → KeysRise low s → KeysBelow key s → low ≤ key → KeysRise low (s ++ (key, x) ∷ [])
rises_on [] low key x rises below order = (order, tt)
rises_on (entry ∷ s) low key x rises below order = (rises.0, rises_on s (entry.0 + 1) key x rises.1 below.1 (omega (arith, below.0)))

pub rises_more : {V : Type 0} (s : List (ℕ × V)) (key : ℕ) (x : V) → KeysRise 0 s → KeysBelow key s → KeysRise 0 (s ++ (key, x) ∷ [])
rises_more s key x rises below = rises_on s 0 key x rises below (omega arith)

-- all keys are below the next, after one more
pub below_more : {V : Type 0} (s : List (ℕ × V)) (key : ℕ) (x : V) → KeysBelow key s → KeysBelow (key + 1) (s ++ (key, x) ∷ [])
below_more [] key x below = (omega arith, tt)
below_more (entry ∷ s) key x below = (omega (arith, below.0), below_more s key x below.1)

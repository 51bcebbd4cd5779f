-- All prefixes of a shape, in rising order.
use Rattle.std.specs.Prelude.{ℕ, zero, suc, List, [], ◌∷◌, ◌++◌, map}

-- the prefixes that begin with one of the n values from v on, where `below` are the prefixes of the further decisions
abbrev pub from_value : ℕ → ℕ → List (List ℕ) → List (List ℕ)
from_value zero v below = []
from_value (suc n) v below = ((v ∷ []) ∷ map (λ p. v ∷ p) below) ++ from_value n (suc v) below

-- every non-empty list that goes with the shape
abbrev pub prefixes : List ℕ → List (List ℕ)
prefixes [] = []
prefixes (s ∷ shape) = from_value s 0 (prefixes shape)

-- A small problem to try the search on: prefixes in which no number stands twice in a row.
use Rattle.std.specs.Prelude.{◌≡◌, ℕ, ◌<◌, List, [], ◌∷◌, length}
use Rattle.std.proofs.Common.{arith}
use Rattle.xdg_facts.specs.Closed.{Closed}

-- no two neighbours are equal
abbrev pub IsApart : List ℕ → Type 0
IsApart [] = Unit {0}
IsApart (a ∷ []) = Unit {0}
IsApart (a ∷ b ∷ x) = (a ≡ b → ⊥) × IsApart (b ∷ x)

some_more : (p : List ℕ) (b : ℕ) → 0 < length (b ∷ p)
some_more p b = omega arith

pub apart_closed : Closed IsApart
apart_closed [] t s h = tt
apart_closed (a ∷ []) t s h = tt
apart_closed (a ∷ b ∷ p) t s h = (h.0, apart_closed (b ∷ p) t (some_more p b) h.1)

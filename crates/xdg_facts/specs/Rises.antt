-- Rising lists of numbers as sets: what stands in them, and the list of the numbers below a bound that pass a test.
use Rattle.std.specs.Prelude.{ℕ, ◌<◌, ◌≤◌, ◌+◌, Bool, false, ◌||◌, ◌==◌, List, [], ◌∷◌, filter}
use Rattle.std.specs.List.{range_with_len}

-- whether the number stands in the list
abbrev pub has : List ℕ → ℕ → Bool
has [] n = false
has (m ∷ s) n = (m == n) || has s n

-- the rising list of the numbers below a bound that pass the test
unfoldable pub numbers_below : ℕ → (ℕ → Bool) → List ℕ
numbers_below bound test = filter test (range_with_len 0 bound)

-- the list rises strictly, from low on and below the bound
abbrev pub Rises : ℕ → ℕ → List ℕ → Type 0
Rises low bound [] = Unit {0}
Rises low bound (n ∷ s) = (low ≤ n) × (n < bound) × Rises (n + 1) bound s

-- The rising list that a number's bits stand for, and the number that a list stands for.
use Rattle.std.specs.Prelude.{ℕ, ◌+◌, ◌^◌, Bool, ◌==◌, List, [], ◌∷◌}
use Rattle.std.specs.Int.{bit_at}
use Rattle.xdg_facts.specs.Rises.{numbers_below}

-- whether the bit of that weight is set
abbrev pub is_set : ℕ → ℕ → Bool
is_set bits n = bit_at bits n == 1

-- the places of the bits that are set, rising
abbrev pub members : ℕ → List ℕ
members bits = numbers_below 128 (is_set bits)

-- the sum of the weights at these places
unfoldable pub number : List ℕ → ℕ
number [] = 0
number (n ∷ s) = 2 ^ n + number s

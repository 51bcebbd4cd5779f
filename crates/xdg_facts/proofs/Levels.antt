-- An induction over two numbers, of which the second may grow where the first falls.
use Rattle.std.proofs.Common.{zero, suc, ℕ}

-- what is known of the rules in brackets, where one fewer may be opened, as they are read and as they are meant
abbrev pub Below : (ℕ → ℕ → Type 0) → ℕ → ℕ → Type 0
Below Levels zero zero = Unit {0}
Below Levels zero (suc n) = Levels zero n
Below Levels (suc d) zero = Levels d zero
Below Levels (suc d) (suc n) = Levels d n

pub below : (Levels : ℕ → ℕ → Type 0) → ((d n : ℕ) → Below Levels d n → Levels d n) → (d n : ℕ) → Below Levels d n
below Levels step zero zero = tt
below Levels step zero (suc n) = step zero n (below Levels step zero n)
below Levels step (suc d) zero = step d zero (below Levels step d zero)
below Levels step (suc d) (suc n) = step d n (below Levels step d n)

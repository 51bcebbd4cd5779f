-- Runs of signs of negation.
use Rattle.std.specs.Prelude.{ℕ, zero, suc, Bool, true, false}

-- Whether a run of signs denies: of two signs one undoes the other.
abbrev pub denies : ℕ → Bool
denies zero = false
denies (suc zero) = true
denies (suc (suc signs)) = denies signs

-- Counts that stop at a greatest number.
use Rattle.std.specs.Prelude.{ℕ, min, ◌-◌, ◌^◌}

-- the number, or the greatest of 64 bits
abbrev pub capped : ℕ → ℕ
capped n = min n (2 ^ 64 - 1)

-- Sets of nodes as two words.
use Rattle.std.specs.Prelude.{ℕ, ◌-◌, Bool, ◌==◌, cond, nat_lt}
use Rattle.std.specs.Int.{bit_at}

-- a node's bit is set: those of the first 64 nodes stand in the first word, those of the next 64 in the second
abbrev pub in_words : ℕ → ℕ → ℕ → Bool
in_words low high n = cond (nat_lt n 64) (bit_at low n == 1) (bit_at high (n - 64) == 1)

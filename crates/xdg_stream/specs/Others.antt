-- The other values of a decision, as the code takes them: 64 at a time.
use Rattle.std.specs.Prelude.{◌≢◌, ℕ, ◌<◌, ◌≤◌, ◌+◌, ◌*◌}

-- of the 64 values from that numbered block * 64 on, one that isn't v
abbrev pub IsOther : ℕ → ℕ → ℕ → Type 0
IsOther block v x = (block * 64 ≤ x) × (x < block * 64 + 64) × (x ≢ v)

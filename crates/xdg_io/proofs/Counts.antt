-- How counts of failures join over calls that follow each other, and that none rises from zero to zero.
use Rattle.std.proofs.Common.{◌≤◌, ℕ, inl, inr, arith}
use Rattle.xdg_io.specs.Rose.{Rose}

-- a count that rose in a later part rose in the whole
pub rose_later : (a b c : ℕ) → a ≤ b → Rose b c → Rose a c
rose_later a b c same rose = grind (arith, same, rose)

pub still : Rose 0 0 → ⊥
still (inl less) = omega (arith, less)
still (inr full) = omega (arith, full)

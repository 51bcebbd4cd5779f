-- Sums of the first numbers, one by one.
use Rattle.std.proofs.Common.{◌≡◌, ℕ, ◌+◌, ◌<◌, ◌≤◌, zero, suc, refl, arith}
use Rattle.xdg_rules.specs.Bounds.{sum_below}

pub below_most : (f g : ℕ → ℕ) (n : ℕ) → ((k : ℕ) → k < n → f k ≤ g k) → sum_below f n ≤ sum_below g n
below_most f g zero each = omega arith
below_most f g (suc n) each = (let rest = below_most f g n (λ k l. each k (omega (arith, l))) in let last = each n (omega arith) in omega (arith, rest, last))

pub below_same : (f g : ℕ → ℕ) (n : ℕ) → ((k : ℕ) → k < n → f k ≡ g k) → sum_below f n ≡ sum_below g n
below_same f g zero each = refl
below_same f g (suc n) each = (let rest = below_same f g n (λ k l. each k (omega (arith, l))) in let last = each n (omega arith) in omega (arith, rest, last))

-- the first of them apart
pub below_first : (f : ℕ → ℕ) (n : ℕ) → sum_below f (suc n) ≡ f 0 + sum_below (λ k. f (suc k)) n
below_first f zero = omega arith
below_first f (suc n) = (let rest = below_first f n in omega (arith, rest))

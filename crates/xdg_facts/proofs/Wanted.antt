-- Counts, and the count that was asked for.
use Rattle.std.proofs.Common.{arith, inl, inr, None, Some, sym, ℕ, ap, ◌≡◌, ◌+◌, eqb, false, ◌≢◌, ◌≤◌}
use Rattle.std.specs.Prelude.{Option}
use Rattle.std.proofs.lemmas.Bool.{eqb-false}
use Rattle.std.specs.Option.{option_eq}
use Rattle.xdg_facts.proofs.Ordered.{three_cases}
use Rattle.xdg_facts.specs.Endings.{IsBelow, IsUpTo, IsAt}

-- below a wanted number, and not at it after one more
pub below_more : (wanted : Option ℕ) (k m : ℕ) → IsBelow k wanted → m ≡ k + 1 → (wanted ≡ Some m → ⊥) → IsBelow m wanted
below_more None k m b e other = tt
below_more (Some n) k m b e other = elim (three_cases m n) [
  | inl l ↦ l
  | inr (inl s) ↦ absurd (other (ap Some (sym s)))
  | inr (inr g) ↦ absurd (omega (arith, b, e, g))
]

-- one more than a number below it is at most the wanted one
pub wanted_reached : (wanted : Option ℕ) (k m : ℕ) → IsBelow k wanted → m ≡ k + 1 → IsUpTo m wanted
wanted_reached None k m b e = tt
wanted_reached (Some n) k m b e = omega (arith, b, e)

pub wanted_go_on : (k m : ℕ) (o : Option ℕ) → k ≡ m → IsUpTo m o → option_eq eqb o (Some k) ≡ false → IsBelow m o
wanted_go_on k m None e u h = tt
wanted_go_on k m (Some n) e u h = let f = eqb-false n k h in let ne : n ≢ k = f in omega arith

pub wanted_more : (m k : ℕ) (o : Option ℕ) → IsBelow m o → k ≡ m + 1 → IsUpTo k o
wanted_more m k None b e = tt
wanted_more m k (Some n) b e = omega arith

-- a number that is wanted is at least each number up to it
pub at_least : (wanted : Option ℕ) (m k : ℕ) → IsAt m wanted → IsUpTo k wanted → k ≤ m
at_least None m k a u = absurd a
at_least (Some n) m k a u = omega (arith, a, u)

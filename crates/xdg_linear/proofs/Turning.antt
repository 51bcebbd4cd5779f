-- The pivot is exchanged with the least greater number behind it, and what is behind it is turned.
use Rattle.std.proofs.Common.{◌≡◌, ◌<◌, ◌≤◌, ◌+◌, ◌⊎◌, inl, inr, ℕ, zero, suc, List, [], ◌∷◌, ◌==◌, cond, Some, length, refl, ap, ◌∙◌, arith, le_refl, reverse, get_or, set, length-set}
use Rattle.std.proofs.lemmas.Bool.{cases_eq}
use Rattle.std.proofs.lemmas.List.{length-reverse}
use Rattle.std.proofs.lemmas.List.Sorted.{IsPermutation-reverse}
use Rattle.std.specs.List.{AllByRecursion}
use Rattle.xdg_facts.specs.Order.{Less, AtMost}
use Rattle.xdg_linear.specs.Arrangements.{times, IsArrangement, IsNext}
use Rattle.xdg_linear.specs.Falling.{Falls}
use Rattle.xdg_linear.proofs.Times.{at_times, times_permuted, arrangement_joined, arrangement_back, arrangement_cons, arrangement_tail, first_stands}
use Rattle.xdg_linear.proofs.Ends.{falling_greatest, climbing_least, climbs_reverse}
use Rattle.xdg_facts.proofs.Lists.{all_at}
use Rattle.xdg_facts.proofs.Each.{each_set, each_below}
use Rattle.xdg_facts.proofs.Ordered.{at_most_cons}

-- behind the place q no number is greater than a
abbrev pub NoneBehind : List ℕ → ℕ → ℕ → Type 0
NoneBehind xs q a = (k : ℕ) → q < k → k < length xs → get_or xs k 0 ≤ a

-- with a at the place of the least greater number the numbers still fall
falls_set : (xs : List ℕ) (q a : ℕ) → Falls xs → q < length xs → a < get_or xs q 0 → NoneBehind xs q a → Falls (set xs q a)
falls_set [] q a f w l none = absurd (omega arith)
falls_set (x ∷ xs) zero a f w l none = (each_below xs a (λ k lt. none (suc k) (omega arith) (omega arith)), f.1)
falls_set (x ∷ xs) (suc q) a f w l none =
    let inside : q < length xs = omega arith in
    let most : get_or xs q 0 ≤ x = all_at (λ y. y ≤ x) xs q f.0 inside in
    let here : a < get_or xs q 0 = l in
    (each_set (λ y. y ≤ x) xs q a f.0 (omega arith), falls_set xs q a f.1 inside l (λ k lt u. none (suc k) (omega arith) (omega arith)))

-- each number is at most a, or at least the one at q
at_most_or : (xs : List ℕ) (q a : ℕ) → Falls xs → q < length xs → NoneBehind xs q a → AllByRecursion (λ y. (y ≤ a) ⊎ (get_or xs q 0 ≤ y)) xs
at_most_or [] q a f w none = tt
at_most_or (x ∷ xs) zero a f w none = (inr (le_refl x), behind xs (each_below xs a (λ k lt. none (suc k) (omega arith) (omega arith)))) where
  behind : (ys : List ℕ) → AllByRecursion (λ y. y ≤ a) ys → AllByRecursion (λ y. (y ≤ a) ⊎ (x ≤ y)) ys
  behind [] each = tt
  behind (y ∷ ys) each = (inl each.0, behind ys each.1)
at_most_or (x ∷ xs) (suc q) a f w none =
    let inside : q < length xs = omega arith in
    (inr (all_at (λ y. y ≤ x) xs q f.0 inside), at_most_or xs q a f.1 inside (λ k lt u. none (suc k) (omega arith) (omega arith)))

swap_times : (n a : ℕ) (xs : List ℕ) (q : ℕ) → q < length xs → times n (get_or xs q 0 ∷ set xs q a) ≡ times n (a ∷ xs)
swap_times n a [] q w = absurd (omega arith)
swap_times n a (x ∷ xs) zero w = let one : ℕ = cond (x == n) 1 0 in let other : ℕ = cond (a == n) 1 0 in omega arith
swap_times n a (x ∷ xs) (suc q) w =
    let rest : cond (get_or xs q 0 == n) 1 0 + times n (set xs q a) ≡ cond (a == n) 1 0 + times n xs = swap_times n a xs q (omega arith) in
    omega arith

module _ (a : ℕ) (xs : List ℕ) (q : ℕ) (f : Falls xs) (w : q < length xs) (l : a < get_or xs q 0) (none : NoneBehind xs q a) where
  turned_arrangement : IsArrangement (a ∷ xs) (get_or xs q 0 ∷ reverse (set xs q a))
  turned_arrangement = record {
    size = ap suc (length-reverse (set xs q a) ∙ length-set xs q a);
    each = λ n. ap (λ k. cond (get_or xs q 0 == n) 1 0 + k) (times_permuted n (set xs q a) (reverse (set xs q a)) (IsPermutation-reverse (set xs q a))) ∙ swap_times n a xs q w;
  }

  turned_least : (other : List ℕ) → IsArrangement (a ∷ xs) other → Less (a ∷ xs) other → AtMost (get_or xs q 0 ∷ reverse (set xs q a)) other
  turned_least [] h less = absurd less
  turned_least (c ∷ ys) h (inr e) = absurd (falling_greatest xs ys f (arrangement_tail a c xs ys e.0 h) e.1)
  turned_least (c ∷ ys) h (inl above) =
      let most : get_or xs q 0 ≤ c = elim (at_times (λ y. (y ≤ a) ⊎ (get_or xs q 0 ≤ y)) c (a ∷ xs) (first_stands (a ∷ xs) c ys h) (inl (le_refl a), at_most_or xs q a f w none)) [
        | inl small ↦ absurd (omega arith)
        | inr large ↦ large
      ] in
      elim (cases_eq (get_or xs q 0) c) [
        | inl e ↦ at_most_cons (get_or xs q 0) c (reverse (set xs q a)) ys e (climbing_least (reverse (set xs q a)) ys (climbs_reverse (set xs q a) (falls_set xs q a f w l none)) (arrangement_tail (get_or xs q 0) c (reverse (set xs q a)) ys e (arrangement_joined (get_or xs q 0 ∷ reverse (set xs q a)) (a ∷ xs) (c ∷ ys) (arrangement_back (a ∷ xs) (get_or xs q 0 ∷ reverse (set xs q a)) turned_arrangement) h)))
        | inr ne ↦ (let less : get_or xs q 0 < c = omega arith in inr (inl less))
      ]

  pub turned_next : IsNext (a ∷ xs) (Some (a ∷ xs)) (get_or xs q 0 ∷ reverse (set xs q a))
  turned_next = record {
    arrangement = turned_arrangement;
    after = inl l;
    least = turned_least;
  }

-- the next arrangement of more numbers

pub next_cons : (x : ℕ) (xs ys : List ℕ) → IsNext xs (Some xs) ys → IsNext (x ∷ xs) (Some (x ∷ xs)) (x ∷ ys)
next_cons x xs ys next = record {
  arrangement = arrangement_cons x xs ys next.arrangement;
  after = inr (refl, next.after);
  least = least;
} where
  least : (other : List ℕ) → IsArrangement (x ∷ xs) other → Less (x ∷ xs) other → AtMost (x ∷ ys) other
  least [] h less = absurd less
  least (c ∷ zs) h (inl above) = inr (inl above)
  least (c ∷ zs) h (inr e) = at_most_cons x c ys zs e.0 (next.least zs (arrangement_tail x c xs zs e.0 h) e.1)

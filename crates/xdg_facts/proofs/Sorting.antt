-- What stands in a list stays there when it is sorted and loses its repetitions.
use Rattle.std.proofs.Common.{arith, get_or, ℕ, ◌≡◌, ◌<◌, ◌+◌, zero, suc, ap, [], ◌∷◌, ◌++◌, ◌∙◌, sym, List, length, refl, ◌≤◌}
use Rattle.std.specs.Prelude.{true, ◌||◌, ◌==◌, eqb}
use Rattle.std.proofs.lemmas.Bool.{eq-eqb}
use Rattle.std.proofs.lemmas.List.FromFn.{get_or-range_with_len, length-range_with_len}
use Rattle.std.proofs.lemmas.List.Kept.{Contains-dedup_nat, Contains-from_dedup}
use Rattle.std.proofs.lemmas.List.Sorted.{Contains-permutation, IsPermutation-sym}
use Rattle.std.specs.List.{range_with_len, Contains, dedup, list_any, AllByRecursion}
use Rattle.std.specs.List.Sorted.{IsStrictlyIncreasing, IsPermutation}
use Rattle.xdg_facts.proofs.Each.{each_from, each_push}
use Rattle.xdg_facts.proofs.Rising.{contains_of_has}
use Rattle.xdg_facts.proofs.Truths.{or_true, same_flag}
use Rattle.xdg_facts.specs.Rises.{has}

pub range_rises : (first count : ℕ) → IsStrictlyIncreasing (range_with_len first count)
range_rises first count k h =
    let within : k + 1 < count = omega (arith, h, length-range_with_len first count) in
    let here : get_or (range_with_len first count) k 0 ≡ first + k = get_or-range_with_len first count k 0 (omega arith) in
    let next : get_or (range_with_len first count) (k + 1) 0 ≡ first + (k + 1) = get_or-range_with_len first count (k + 1) 0 within in
    omega (arith, here, next)

-- one number more
grown : (first count : ℕ) → range_with_len first count ++ (first + count) ∷ [] ≡ range_with_len first (suc count)
grown first zero = let e : first + 0 ≡ first = omega arith in ap (λ n. n ∷ []) e
grown first (suc count) =
    let e : first + suc count ≡ (first + 1) + count = omega arith in
    ap (λ n. first ∷ (range_with_len (first + 1) count ++ n ∷ [])) e ∙ ap (λ t. first ∷ t) (grown (first + 1) count)

pub range_more : (count : ℕ) → range_with_len 0 count ++ count ∷ [] ≡ range_with_len 0 (count + 1)
range_more count =
    let e : 0 + count ≡ count = omega arith in
    let g : suc count ≡ count + 1 = omega arith in
    ap (λ n. range_with_len 0 count ++ n ∷ []) (sym e) ∙ grown 0 count ∙ ap (λ n. range_with_len 0 n) g

has_at : (s : List ℕ) (n k : ℕ) → k < length s → get_or s k n ≡ n → has s n ≡ true
has_at [] n k h e = absurd (omega (arith, h))
has_at (m ∷ s) n zero h e = ap (λ t. t || has s n) (eq-eqb m n e)
has_at (m ∷ s) n (suc k) h e = ap (λ z. (m == n) || z) (has_at s n k (omega (arith, h)) e) ∙ or_true (m == n)

same_members : (s t : List ℕ) (n : ℕ) → (Contains s n → Contains t n) → (Contains t n → Contains s n) → has s n ≡ has t n
same_members s t n f g = same_flag (has s n) (has t n)
    (λ e. let c = f (contains_of_has s n e) in has_at t n c.0 c.1 c.2)
    (λ e. let c = g (contains_of_has t n e) in has_at s n c.0 c.1 c.2)

pub dedup_has : (s : List ℕ) (n : ℕ) → has (dedup eqb s) n ≡ has s n
dedup_has s n = same_members (dedup eqb s) s n (Contains-from_dedup eqb s n) (Contains-dedup_nat s n)

pub permuted_has : (s t : List ℕ) (n : ℕ) → IsPermutation s t → has t n ≡ has s n
permuted_has s t n p = same_members t s n (Contains-permutation t s n (IsPermutation-sym s t p)) (Contains-permutation s t n p)

pub any_has : (s : List ℕ) (n : ℕ) → list_any (λ m. m == n) s ≡ has s n
any_has [] n = refl
any_has (m ∷ s) n = ap (λ t. (m == n) || t) (any_has s n)

-- no number is smaller than one before it
abbrev pub Climbs : List ℕ → Type 0
Climbs [] = Unit {0}
Climbs (x ∷ xs) = AllByRecursion (λ y. x ≤ y) xs × Climbs xs

pub climbs_from : (xs : List ℕ) → ((i j : ℕ) → i ≤ j → j < length xs → get_or xs i 0 ≤ get_or xs j 0) → Climbs xs
climbs_from [] sorted = tt
climbs_from (x ∷ xs) sorted = (
  each_from (λ y. x ≤ y) xs (λ k lt. sorted 0 (suc k) (omega arith) (omega arith)),
  climbs_from xs (λ i j le lt. sorted (suc i) (suc j) (omega arith) (omega arith)),
)

pub climbs_push : (xs : List ℕ) (x : ℕ) → Climbs xs → AllByRecursion (λ y. y ≤ x) xs → Climbs (xs ++ x ∷ [])
climbs_push [] x c each = (tt, tt)
climbs_push (y ∷ ys) x c each = (each_push (λ z. y ≤ z) ys x c.0 each.0, climbs_push ys x c.1 each.1)

-- How often numbers stand in lists, and what follows for arrangements.
use Rattle.std.proofs.Common.{◌≡◌, ◌<◌, ◌+◌, inl, inr, ℕ, suc, List, [], ◌∷◌, ◌==◌, cond, length, refl, ap, sym, ◌∙◌, subst, arith, eq-eqb, ne_eqb, IsPermutation}
use Rattle.std.proofs.lemmas.Bool.{cases_eq}
use Rattle.std.proofs.lemmas.List.Recursion.{is_sum_by}
use Rattle.std.proofs.lemmas.List.Sorted.{sum_by-IsPermutation, length_permutation}
use Rattle.std.specs.List.{AllByRecursion}
use Rattle.xdg_linear.specs.Arrangements.{times, IsArrangement}
use Rattle.xdg_facts.proofs.Numbers.{same_rest, same_size}

pub times-same : (n : ℕ) (xs : List ℕ) → times n (n ∷ xs) ≡ 1 + times n xs
times-same n xs = ap (λ b. cond b 1 0 + times n xs) (eq-eqb n n refl)

pub times-other : (n x : ℕ) (xs : List ℕ) → (x ≡ n → ⊥) → times n (x ∷ xs) ≡ times n xs
times-other n x xs ne =
    let e : times n (x ∷ xs) ≡ 0 + times n xs = ap (λ b. cond b 1 0 + times n xs) (ne_eqb x n ne) in
    omega arith

-- a number that stands in a list is one of those of which something holds
pub at_times : (P : ℕ → Type 0) (n : ℕ) (xs : List ℕ) → 0 < times n xs → AllByRecursion P xs → P n
at_times P n [] some each = absurd (omega arith)
at_times P n (x ∷ xs) some each = elim (cases_eq x n) [
  | inl e ↦ subst P e each.0
  | inr ne ↦ (let e = times-other n x xs ne in at_times P n xs (omega (arith, e)) each.1)
]

pub times_permuted : (n : ℕ) (xs ys : List ℕ) → IsPermutation xs ys → times n ys ≡ times n xs
times_permuted n xs ys p =
    let one : ℕ → ℕ = λ x. cond (x == n) 1 0 in
    is_sum_by (times n) one refl (λ x zs. refl) ys ∙ sum_by-IsPermutation one xs ys p ∙ sym (is_sum_by (times n) one refl (λ x zs. refl) xs)

-- ---- arrangements

pub arrangement_permuted : (xs ys : List ℕ) → IsPermutation xs ys → IsArrangement xs ys
arrangement_permuted xs ys p = record { size = length_permutation xs ys p; each = λ n. times_permuted n xs ys p }

pub arrangement_joined : (xs ys zs : List ℕ) → IsArrangement xs ys → IsArrangement ys zs → IsArrangement xs zs
arrangement_joined xs ys zs h k = record { size = k.size ∙ h.size; each = λ n. k.each n ∙ h.each n }

pub arrangement_back : (xs ys : List ℕ) → IsArrangement xs ys → IsArrangement ys xs
arrangement_back xs ys h = record { size = sym h.size; each = λ n. sym (h.each n) }

pub arrangement_cons : (x : ℕ) (xs ys : List ℕ) → IsArrangement xs ys → IsArrangement (x ∷ xs) (x ∷ ys)
arrangement_cons x xs ys h = record { size = ap suc h.size; each = λ n. ap (λ k. cond (x == n) 1 0 + k) (h.each n) }

pub arrangement_tail : (x y : ℕ) (xs ys : List ℕ) → x ≡ y → IsArrangement (x ∷ xs) (y ∷ ys) → IsArrangement xs ys
arrangement_tail x y xs ys e h =
    let same : IsArrangement (x ∷ xs) (x ∷ ys) = subst (λ z. IsArrangement (x ∷ xs) (z ∷ ys)) (sym e) h in
    record {
      size = same_size (length ys) (length xs) same.size;
      each = λ n. same_rest (cond (x == n) 1 0) (times n ys) (times n xs) (same.each n);
    }

-- the first number of an arrangement stands among the others' numbers
pub first_stands : (xs : List ℕ) (y : ℕ) (ys : List ℕ) → IsArrangement xs (y ∷ ys) → 0 < times y xs
first_stands xs y ys h =
    let e = h.each y in
    let s = times-same y ys in
    omega (arith, e, s)

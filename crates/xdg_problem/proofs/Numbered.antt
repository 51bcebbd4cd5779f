-- Numbers one after another.
use Rattle.std.proofs.Common.{◌≡◌, ℕ, ◌+◌, ◌++◌, [], ◌∷◌, ◌∙◌, ap, zero, suc, arith}
use Rattle.xdg_problem.specs.Places.{numbers_from}

pub numbers_more : (first count : ℕ) → numbers_from first (suc count) ≡ numbers_from first count ++ (first + count) ∷ []
numbers_more first zero = let e : first ≡ first + 0 = omega arith in ap (λ (n : ℕ). n ∷ []) e
numbers_more first (suc count) = let e : suc first + count ≡ first + suc count = omega arith in
    ap (λ xs. first ∷ xs) (numbers_more (suc first) count) ∙ ap (λ (n : ℕ). (first ∷ numbers_from (suc first) count) ++ n ∷ []) e

-- Sums and products that stop at a greatest number.
use Rattle.std.proofs.Common.{zero, arith, suc, min, sym, ℕ, ◌≡◌, ◌≤◌, ◌*◌, ◌∙◌, inl, inr, ap, ap₂, ◌+◌, ◌<◌, ltb}
use Rattle.std.proofs.Math.Nat.{min-eq_right, min-eq_left, mul_comm, mul_assoc, le-mul_of_pos_right}
use Rattle.std.proofs.lemmas.Bool.{cases_lt, ltb-false, cases_Bool, ltb-true}
use Rattle.xdg_facts.proofs.Numbers.{grown, below_one}

pub beyond_both : (a b most : ℕ) → most ≤ a → min (most * b) most ≡ min (a * b) most
beyond_both a zero most beyond = omega arith
beyond_both a (suc b) most beyond = min-eq_right (grown most b most (omega arith)) ∙ sym (min-eq_right (grown a b most beyond))

pub capped_mul : (a b most : ℕ) → min (min a most * b) most ≡ min (a * b) most
capped_mul a b most = elim (cases_lt a most) [
  | inl below ↦ ap (λ m. min (m * b) most) (min-eq_left (omega (arith, below)))
  | inr beyond ↦ ap (λ m. min (m * b) most) (min-eq_right beyond) ∙ beyond_both a b most beyond
]

-- a product and one more, each step capped
pub capped_parts : (keys one members each product whole most : ℕ) → members ≡ min keys most → each ≡ min one most → product ≡ min (members * each) most → whole ≡ min (product + 1) most → whole ≡ min (1 + keys * one) most
capped_parts keys one members each product whole most m e p w =
    let inner : product ≡ min (keys * one) most =
    p ∙ ap₂ (λ a b. min (a * b) most) m e ∙ capped_mul keys (min one most) most ∙ ap (λ a. min a most) (mul_comm keys (min one most)) ∙ capped_mul one keys most ∙ ap (λ a. min a most) (mul_comm one keys) in
    w ∙ ap (λ a. min (a + 1) most) inner ∙ below_one (keys * one) most

pub capped_one : (parts inner whole most : ℕ) → inner ≡ min parts most → whole ≡ min (inner + 1) most → whole ≡ min (1 + parts) most
capped_one parts inner whole most i w = w ∙ ap (λ a. min (a + 1) most) i ∙ below_one parts most

pub capped_mul_right : (a b most : ℕ) → min (a * min b most) most ≡ min (a * b) most
capped_mul_right a b most = ap (λ m. min m most) (mul_comm a (min b most)) ∙ capped_mul b a most ∙ ap (λ m. min m most) (mul_comm b a)

-- one more factor, then the others
pub factor_more : (so_far one grown next rest most whole : ℕ) → grown ≡ min one most → next ≡ min (so_far * grown) most → min (so_far * (one * rest)) most ≡ whole → min (next * rest) most ≡ whole
factor_more so_far one grown next rest most whole g n before =
    ap (λ m. min (m * rest) most) (n ∙ ap (λ m. min (so_far * m) most) g ∙ capped_mul_right so_far one most)
    ∙ capped_mul (so_far * one) rest most ∙ ap (λ m. min m most) (mul_assoc so_far one rest) ∙ before

pub past : (m p top : ℕ) → top < m → min (top * p) top ≡ min (m * p) top
past m zero top h = let e : top * zero ≡ m * zero = omega arith in ap (λ x. min x top) e
past m (suc p) top h =
    let a : top ≤ top * suc p = le-mul_of_pos_right top (omega arith) in
    let b : m ≤ m * suc p = le-mul_of_pos_right m (omega arith) in
    let c : top ≤ m * suc p = omega arith in
    min-eq_right a ∙ sym (min-eq_right c)

-- to stop at a number, and then to multiply, loses nothing
pub stop_then : (a n p top : ℕ) → min (min (a * n) top * p) top ≡ min (a * (n * p)) top
stop_then a n p top = elim (cases_Bool (ltb top (a * n))) [
  | inl over ↦ (let h : top < a * n = ltb-true top (a * n) over in
      let k : top ≤ a * n = omega arith in
      ap (λ m. min (m * p) top) (min-eq_right k) ∙ past (a * n) p top h ∙ ap (λ m. min m top) (mul_assoc a n p))
  | inr under ↦ (let h : a * n ≤ top = ltb-false top (a * n) under in ap (λ m. min (m * p) top) (min-eq_left h) ∙ ap (λ m. min m top) (mul_assoc a n p))
]

pub capped_sum : (a b most : ℕ) → min (min a most + min b most) most ≡ min (a + b) most
capped_sum a b most = omega arith

pub capped_again : (a b most : ℕ) → a ≡ min b most → min a most ≡ min b most
capped_again a b most h = omega (arith, h)

pub product_stops : (a b c d most : ℕ) → min a most ≡ min c most → min b most ≡ min d most → min (a * b) most ≡ min (c * d) most
product_stops a b c d most h k =
    sym (capped_mul a b most) ∙ ap (λ m. min (m * b) most) h ∙ capped_mul c b most ∙ sym (capped_mul_right c b most) ∙ ap (λ m. min (c * m) most) k ∙ capped_mul_right c d most

pub sum_stops : (a b c d most : ℕ) → min a most ≡ min c most → min b most ≡ min d most → min (a + b) most ≡ min (c + d) most
sum_stops a b c d most h k = omega (arith, h, k)

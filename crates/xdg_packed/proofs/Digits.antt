-- The digits of a number tell it, and where they end.
use Rattle.std.proofs.Common.{◌≡◌, ℕ, zero, suc, ◌+◌, ◌-◌, ◌*◌, ◌/◌, ◌%◌, ◌<◌, ◌≤◌, ◌==◌, false, cond, List, [], ◌∷◌, ◌++◌, refl, sym, ap, ap₂, ◌∙◌, arith}
use Rattle.std.proofs.lemmas.Bool.{cond_both, eqb-true, eqb-false}
use Rattle.std.proofs.lemmas.List.{append_assoc}
use Rattle.std.specs.Prelude.{codes}
use Rattle.xdg_packed.specs.Spelling.{digits, number}
use Rattle.xdg_facts.proofs.Lists.{head_of, tail_of}

-- ---- enough turns

none_of_zero : (turns : ℕ) → digits turns 0 ≡ []
unfolding digits
none_of_zero zero = refl
none_of_zero (suc turns) = refl

same_digits : (t u n : ℕ) → n ≤ t → n ≤ u → digits t n ≡ digits u n
unfolding digits
same_digits zero u n p q = let z : n ≡ 0 = omega (arith, p) in ap (digits zero) z ∙ sym (ap (digits u) z ∙ none_of_zero u)
same_digits (suc t) zero n p q = let z : n ≡ 0 = omega (arith, q) in ap (digits (suc t)) z ∙ sym (ap (digits zero) z)
same_digits (suc t) (suc u) n p q = ap (λ ds. cond (n == 0) [] ((48 + n % 64) ∷ ds)) (same_digits t u (n / 64) (omega (arith, p)) (omega (arith, q)))

-- what is left of a number that is not 0
pub digits_next : (n : ℕ) → 0 < n → digits n n ≡ (48 + n % 64) ∷ digits (n / 64) (n / 64)
unfolding digits
digits_next zero some = absurd (omega (arith, some))
digits_next (suc n) some =
    cond_both (suc n == 0) [] ((48 + suc n % 64) ∷ digits n (suc n / 64)) (λ ds. ds ≡ (48 + suc n % 64) ∷ digits (suc n / 64) (suc n / 64))
    (λ e. absurd (let z = eqb-true (suc n) 0 e in omega (arith, z)))
    (λ e. ap (λ ds. (48 + suc n % 64) ∷ ds) (same_digits n (suc n / 64) (suc n / 64) (omega arith) (omega arith)))

-- ---- reading digits

abbrev read : List ℕ → ℕ
read [] = 0
read (d ∷ ds) = (d - 48) + read ds * 64

read-digits : (turns n : ℕ) → n ≤ turns → read (digits turns n) ≡ n
unfolding digits
read-digits zero n within = let z : n ≡ 0 = omega (arith, within) in sym z
read-digits (suc turns) n within =
    cond_both (n == 0) [] ((48 + n % 64) ∷ digits turns (n / 64)) (λ ds. read ds ≡ n)
    (λ e. sym (eqb-true n 0 e))
    (λ e. let rest : read (digits turns (n / 64)) ≡ n / 64 = read-digits turns (n / 64) (omega (arith, within)) in omega (arith, rest))

-- ---- the full stop

-- no full stop stands among these
abbrev AreDigits : List ℕ → Type 0
AreDigits [] = Unit {0}
AreDigits (d ∷ ds) = (46 < d) × AreDigits ds

are_digits : (turns n : ℕ) → AreDigits (digits turns n)
unfolding digits
are_digits zero n = tt
are_digits (suc turns) n = cond_both (n == 0) [] ((48 + n % 64) ∷ digits turns (n / 64)) AreDigits (λ e. tt) (λ e. (omega arith, are_digits turns (n / 64)))

pub apart : (a b : ℕ) (x y : List ℕ) → (a == b) ≡ false → a ∷ x ≡ b ∷ y → ⊥
apart a b x y differ e = absurd (eqb-false a b differ (head_of a b x y e))

stopped : (a b r s : List ℕ) → AreDigits a → AreDigits b → a ++ 46 ∷ r ≡ b ++ 46 ∷ s → (a ≡ b) × (r ≡ s)
stopped [] [] r s p q e = (refl, tail_of 46 46 r s e)
stopped [] (y ∷ b) r s p q e =
    let h : 46 ≡ y = head_of 46 y r (b ++ 46 ∷ s) e in
    absurd (omega (arith, h, q.0))
stopped (x ∷ a) [] r s p q e =
    let h : x ≡ 46 = head_of x 46 (a ++ 46 ∷ r) s e in
    absurd (omega (arith, h, p.0))
stopped (x ∷ a) (y ∷ b) r s p q e =
    let rest = stopped a b r s p.1 q.1 (tail_of x y (a ++ 46 ∷ r) (b ++ 46 ∷ s) e) in
    (ap₂ (λ d ds. d ∷ ds) (head_of x y (a ++ 46 ∷ r) (b ++ 46 ∷ s) e) rest.0, rest.1)

-- the spelling of a number is the front of that of no other
pub number_told : (n m : ℕ) (r s : List ℕ) → number n ++ r ≡ number m ++ s → (n ≡ m) × (r ≡ s)
unfolding number
number_told n m r s e =
    let told = stopped (digits n n) (digits m m) r s (are_digits n n) (are_digits m m)
    (sym (append_assoc (digits n n) (codes ".") r) ∙ e ∙ append_assoc (digits m m) (codes ".") s) in
    (sym (read-digits n n (omega arith)) ∙ ap read told.0 ∙ read-digits m m (omega arith), told.1)

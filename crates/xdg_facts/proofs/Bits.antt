-- The bits of numbers.
use Rattle.std.proofs.Common.{◌≡◌, ℕ, ◌<◌, ◌≤◌, ◌/◌, ◌^◌, suc, arith, inl, inr, ap, sym, ◌∙◌, ◌⊎◌, ◌-◌, ◌↔◌, ◌≢◌, ◌%◌, ap₂}
use Rattle.std.proofs.Math.Nat.{pow-suc}
use Rattle.std.proofs.lemmas.Nat.{pow_pos, div_below, le-div, div-add-mod', shr-shr, and_le_r}
use Rattle.std.specs.Int.{bit_at, w64, trailing_zeros, w32}
use Rattle.std.proofs.lemmas.Bool.{cases_eq}
use Rattle.std.proofs.lemmas.Nat.Bits.{bit_at-pow_other, bit_at_or, bit_at-lt, bit_at-pow_same, bit_at_and, bit_at-zero, bit_at-trailing_zeros, same_from_bits, bit_at_cat_low, bit_at_cat_high, bit_at_above}
use lib.Bits.{bit_or, bit_and}
use Rattle.std.specs.Prelude.{◌+◌, ◌*◌}
use Prim.Native.Nat.{max}
use Rattle.xdg_facts.proofs.Numbers.{max_zero, zero_max}

pub top_bit : (b j : ℕ) → 2 ^ j ≤ b → b < 2 ^ suc j → b / 2 ^ j ≡ 1
top_bit b j least most =
    let low = le-div 1 b (2 ^ j) (pow_pos j) (omega (arith, least)) in
    let high = div_below b (2 ^ j) 2 (pow_pos j) (omega (arith, most, pow-suc 2 j)) in
    omega (arith, low, high)

pub or_new_bit : (a k : ℕ) → bit_at (bit_or a (2 ^ k)) k ≡ 1
or_new_bit a k = let e = bit_at_or a (2 ^ k) k in let l = bit_at-lt a k in let s = bit_at-pow_same k in omega (arith, e, l, s)

pub halves : (b a : ℕ) → b / 2 ^ a ≡ b / 2 ^ (a + 1) * 2 + bit_at b a
halves b a = sym (div-add-mod' (b / 2 ^ a) 2) ∙ ap (λ q. q * 2 + bit_at b a) (shr-shr b a 1)

pub or_bit : (a k kind : ℕ) → bit_at (bit_or a (2 ^ k)) kind ≡ 1 → (bit_at a kind ≡ 1) ⊎ (kind ≡ k)
or_bit a k kind h = elim (cases_eq kind k) [
  | inl same ↦ inr same
  | inr other ↦ inl (let e = bit_at_or a (2 ^ k) kind in let s = bit_at-pow_other k kind other in omega (arith, e, s, h))
]

pub or_left_bit : (a b kind : ℕ) → bit_at a kind ≡ 1 → bit_at (bit_or a b) kind ≡ 1
or_left_bit a b kind h = let e = bit_at_or a b kind in let l = bit_at-lt b kind in omega (arith, e, l, h)

pub has_right : (a b kind : ℕ) → bit_at b kind ≡ 1 → bit_at (bit_or a b) kind ≡ 1
has_right a b kind h = (let e = bit_at_or a b kind in let l = bit_at-lt a kind in omega (arith, e, l, h))

pub either_bit : (a b i : ℕ) → bit_at (bit_or a b) i ≡ 1 → (bit_at a i ≡ 1) ⊎ (bit_at b i ≡ 1)
either_bit a b i h = elim (cases_eq (bit_at a i) 1) [
  | inl is ↦ inl is
  | inr other ↦ inr (let e = bit_at_or a b i in let l = bit_at-lt a i in let m = bit_at-lt b i in omega (arith, e, h, l, m, other))
]

-- a bit is set of two numbers together where it is set of both
pub both_bits : (a b i : ℕ) → (bit_at (bit_and a b) i ≡ 1) ↔ ((bit_at a i ≡ 1) × (bit_at b i ≡ 1))
both_bits a b i =
    let m = bit_at_and a b i in
    let x = bit_at-lt a i in
    let y = bit_at-lt b i in
    (λ h. (omega (arith, m, h, x, y), omega (arith, m, h, x, y)), λ (j, k). omega (arith, m, j, k))

-- two wake sets that share no kind
pub none_shared : (wakes lost kind : ℕ) → bit_and wakes lost ≡ 0 → bit_at lost kind ≡ 1 → bit_at wakes kind ≡ 0
none_shared wakes lost kind e h =
    let m = bit_at_and wakes lost kind in
    let z = ap (λ n. bit_at n kind) e ∙ bit_at-zero kind in
    let l = bit_at-lt wakes kind in
    omega (arith, m, z, l, h)

-- two wake sets that share one
pub shared : (wakes lost : ℕ) → lost < 2 ^ 64 → bit_and wakes lost ≢ 0 → (kind : ℕ) × (bit_at wakes kind ≡ 1) × (bit_at lost kind ≡ 1)
shared wakes lost fits h =
    let small : bit_and wakes lost < 2 ^ 64 = (let r = and_le_r wakes lost in omega (arith, r, fits)) in
    let t = bit_at-trailing_zeros w64 (bit_and wakes lost) (omega arith) small in
    let kind = trailing_zeros w64 (bit_and wakes lost) in
    let m = bit_at_and wakes lost kind in
    let p = bit_at-lt wakes kind in
    let q = bit_at-lt lost kind in
    (kind, omega (arith, t.1, m, p, q), omega (arith, t.1, m, p, q))

pub bit_old : (a k kind : ℕ) → kind ≢ k → bit_at (bit_or a (2 ^ k)) kind ≡ 1 → bit_at a kind ≡ 1
bit_old a k kind n h = let e = bit_at_or a (2 ^ k) kind in let s = bit_at-pow_other k kind n in omega (arith, e, s, h)

pub no_bits : (n : ℕ) → ((kind : ℕ) → bit_at n kind ≡ 1 → ⊥) → n ≡ 0
no_bits n none = same_from_bits n 0 (λ k. (let z = bit_at-zero k in let l = bit_at-lt n k in elim (cases_eq (bit_at n k) 1) [ inl e ↦ absurd (none k e) | inr o ↦ (omega (arith, z, l, o)) ]))

pub some_bit : (n : ℕ) → n ≢ 0 → n < 2 ^ 64 → (kind : ℕ) × (bit_at n kind ≡ 1)
some_bit n some small = (trailing_zeros w64 n, (bit_at-trailing_zeros w64 n (omega (arith, some)) small).1)

-- the lowest bit of a number that isn't 0
pub lowest_label_bit : (n : ℕ) → (n ≡ 0 → ⊥) → n < 2 ^ 32 → (trailing_zeros w32 n < 32) × (bit_at n (trailing_zeros w32 n) ≡ 1)
lowest_label_bit n some small = (let t = bit_at-trailing_zeros w32 n (elim (cases_eq n 0) [ inl none ↦ absurd (some none) | inr other ↦ omega (arith, other) ]) small in (t.0, t.1))

no_wrap : (high : ℕ) → high < 2 ^ 64 → high * 2 ^ 64 % 2 ^ 128 ≡ high * 2 ^ 64 + 0
no_wrap high small = omega arith

pub joined_low : (low high n : ℕ) → low < 2 ^ 64 → high < 2 ^ 64 → n < 64 → bit_at (bit_or low (high * 2 ^ 64 % 2 ^ 128)) n ≡ bit_at low n
joined_low low high n l h below =
    bit_at_or low (high * 2 ^ 64 % 2 ^ 128) n
    ∙ ap (λ z. max (bit_at low n) (bit_at z n)) (no_wrap high h)
    ∙ ap (max (bit_at low n)) (bit_at_cat_low high 64 0 n below ∙ bit_at-zero n)
    ∙ max_zero (bit_at low n)

pub joined_high : (low high n : ℕ) → low < 2 ^ 64 → high < 2 ^ 64 → 64 ≤ n → bit_at (bit_or low (high * 2 ^ 64 % 2 ^ 128)) n ≡ bit_at high (n - 64)
joined_high low high n l h above =
    bit_at_or low (high * 2 ^ 64 % 2 ^ 128) n
    ∙ ap₂ (λ x z. max x (bit_at z n)) (bit_at_above low 64 n l above) (no_wrap high h)
    ∙ zero_max (bit_at (high * 2 ^ 64 + 0) n)
    ∙ bit_at_cat_high high 64 0 n (omega arith) above

-- a word that is zero has no bit
pub no_bit : (word bit : ℕ) → word ≡ 0 → bit_at word bit ≡ 1 → ⊥
no_bit word bit e h = (let z = ap (λ w. bit_at w bit) e ∙ bit_at-zero bit in omega (arith, z, h))

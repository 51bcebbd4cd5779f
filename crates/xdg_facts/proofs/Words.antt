-- Bits of words of 32 and of 64 bits: masks, and one bit set or cleared.
use Rattle.std.proofs.Common.{arith, inl, inr, ℕ, ◌≡◌, ◌<◌, ◌-◌, ◌^◌, ◌↔◌, true, Bool, IsTrue, ◌≤◌, sym, false, ◌≢◌, ◌*◌, ◌%◌, ◌∙◌, ap, cond, ◌+◌}
use Rattle.std.specs.Prelude.{◌==◌, nat_lt}
use Prim.Native.Nat.{min}
use Rattle.std.proofs.lemmas.Bool.{cases_lt, false≢true, eq-eqb, ne_eqb, cases_eq, lt-ltb, le-ltb}
use Rattle.std.proofs.lemmas.Nat.{one_shl}
use Rattle.std.proofs.lemmas.Nat.Bits.{bit_at_ones, bit_at_ones_above, bit_at_clear_same, bit_at_and, bit_at_above, bit_at_clear_other, bit_at_set_same, bit_at-pow_other, bit_at-pow_same, bit_at-trailing_zeros}
use Rattle.std.specs.Int.{bit_at, bit_not, w32, w64, trailing_zeros}
use lib.Bits.{bit_and, bit_or}

low_bits : (count : ℕ) → (label : ℕ) → (bit_at (2 ^ count - 1) label ≡ 1) ↔ (label < count)
low_bits count label = (
  λ h. elim (cases_lt label count) [
    | inl l ↦ l
    | inr l ↦ absurd (let z = bit_at_ones_above count label l in omega (arith, z, h))
  ],
  λ l. bit_at_ones count label l,
)

pub all_bits : (count : ℕ) (wanted : Bool) → count ≤ 32 → 32 ≤ count → wanted ≡ true → (label : ℕ) → (bit_at 4294967295 label ≡ 1) ↔ ((label < count) × IsTrue wanted)
all_bits count wanted most least is label =
    let low = low_bits 32 label in (
      λ h. (let l = low.0 h in (omega (arith, l, least), is)),
      λ h. (let l = h.0 in low.1 (omega (arith, l, most))),
    )

pub clear_here : (word bit : ℕ) (wanted : Bool) → bit < 32 → wanted ≡ false → (bit_at (bit_and word (bit_not w32 (1 * 2 ^ bit % 2 ^ 32))) bit ≡ 1) ↔ IsTrue wanted
clear_here word bit wanted l is = (
  λ h. absurd (let z = bit_at_clear_same w32 word bit l in omega (arith, z, h)),
  λ h. absurd (false≢true (sym is ∙ h)),
)

pub clear_others : (word bit : ℕ) → word < 2 ^ 32 → bit < 32 → (i : ℕ) → i ≢ bit → bit_at (bit_and word (bit_not w32 (1 * 2 ^ bit % 2 ^ 32))) i ≡ bit_at word i
clear_others word bit small l i other = elim (cases_lt i 32) [
  | inl k ↦ bit_at_clear_other w32 word bit l i k other
  | inr k ↦
      let none = bit_at_above word 32 i small k in
      let both = bit_at_and word (bit_not w32 (1 * 2 ^ bit % 2 ^ 32)) i in
      omega (arith, none, both)
]

pub first_bits : (count : ℕ) (wanted : Bool) → count < 32 → wanted ≡ true → (label : ℕ) → (bit_at (1 * 2 ^ count % 2 ^ 32 - 1) label ≡ 1) ↔ ((label < count) × IsTrue wanted)
first_bits count wanted l is label =
    let e : bit_at (1 * 2 ^ count % 2 ^ 32 - 1) label ≡ bit_at (2 ^ count - 1) label = ap (λ w. bit_at (w - 1) label) (one_shl count 32 l) in
    let low = low_bits count label in
    (λ h. (low.0 (sym e ∙ h), is), λ h. e ∙ low.1 h.0)

pub set_here : (word bit : ℕ) (wanted : Bool) → bit < 32 → wanted ≡ true → (bit_at (bit_or word (1 * 2 ^ bit % 2 ^ 32)) bit ≡ 1) ↔ IsTrue wanted
set_here word bit wanted l is = (λ h. is, λ h. bit_at_set_same w32 word bit l)

pub bit_mask : (value first : ℕ) → first ≤ value → value - first < 64 → (i : ℕ) → i < 64 → bit_at (1 * 2 ^ (value - first) % 2 ^ 64) i ≡ cond (first + i == value) 1 0
bit_mask value first l m i k = ap (λ w. bit_at w i) (one_shl (value - first) 64 m) ∙ elim (cases_eq (first + i) value) [
  | inl e ↦
      let s : i ≡ value - first = omega (arith, e, l) in
      ap (bit_at (2 ^ (value - first))) s ∙ bit_at-pow_same (value - first) ∙ sym (ap (λ b. cond b 1 0) (eq-eqb (first + i) value e))
  | inr n ↦ bit_at-pow_other (value - first) i (λ s. n (omega (arith, s, l))) ∙ sym (ap (λ b. cond b 1 0) (ne_eqb (first + i) value n))
]

pub full_mask : (count : ℕ) → 64 ≤ count → (i : ℕ) → i < 64 → bit_at 18446744073709551615 i ≡ cond (nat_lt i count) 1 0
full_mask count l i m = bit_at_ones 64 i m ∙ sym (ap (λ b. cond b 1 0) (lt-ltb i count (omega (arith, l, m))))

pub low_mask : (count : ℕ) → count < 64 → (i : ℕ) → i < 64 → bit_at (1 * 2 ^ count % 2 ^ 64 - 1) i ≡ cond (nat_lt i count) 1 0
low_mask count l i m = ap (λ w. bit_at (w - 1) i) (one_shl count 64 l) ∙ elim (cases_lt i count) [
  | inl k ↦ bit_at_ones count i k ∙ sym (ap (λ b. cond b 1 0) (lt-ltb i count k))
  | inr k ↦ bit_at_ones_above count i k ∙ sym (ap (λ b. cond b 1 0) (le-ltb i count k))
]

pub bit_within : (n : ℕ) → 0 < n → n < 2 ^ 64 → (i : ℕ) × (i < 64) × (bit_at n i ≡ 1)
bit_within n l m = let t = bit_at-trailing_zeros w64 n l m in (trailing_zeros w64 n, t.0, t.1)

pub one_of : (b : ℕ) → b < 2 → b ≢ 1 → b ≡ 0
one_of b l n = omega (arith, l, n)

pub three : (a b c : ℕ) → min (min a b) c ≡ 1 → a < 2 → b < 2 → c < 2 → (a ≡ 1) × (b ≡ 1) × (c ≡ 1)
three a b c e l m k = (omega (arith, e, l, m, k), omega (arith, e, l, m, k), omega (arith, e, l, m, k))

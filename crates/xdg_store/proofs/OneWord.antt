-- The bits of one word of a row.
use Rattle.std.proofs.Common.{◌≡◌, ℕ, ◌<◌, ◌+◌, ◌-◌, ◌*◌, ◌/◌, ◌%◌, ◌^◌, ◌↔◌, Bool, true, false, cond, not, List, get_or, ap, ap₂, sym, ◌∙◌, arith, subst}
use Rattle.std.specs.Prelude.{◌==◌, nat_eq, nat_lt}
use Rattle.std.specs.Int.{bit_at, bit_not, w64}
use Prim.Native.Nat.{min}
use lib.Bits.{bit_and}
use Rattle.std.proofs.lemmas.Bool.{eq-eqb, eqb-false, eqb-true, lt-ltb, ltb-true, ne_eqb, not-true, not_from_false}
use Rattle.std.proofs.lemmas.Nat.{and_le_l}
use Rattle.std.proofs.lemmas.Nat.Bits.{bit_at-lt, bit_at-zero, bit_at_and, bit_at_not}
use Rattle.xdg_store.specs.Layout.{is_set}
use Rattle.xdg_store.specs.Rows.{HasLeftInWord, HasOther, HasOtherInWord}
use Rattle.xdg_facts.proofs.Words.{bit_within, one_of, three}

-- ---- a word with a bit

abbrev pub flag : Bool → ℕ
flag b = cond b 1 0

pub one_if : (b : Bool) → flag b ≡ 1 → b ≡ true
one_if true e = cc
one_if false e = cc

module _ (word low taken first size : ℕ) (w : word < 2 ^ 64) (t : taken < 2 ^ 64) (l : (i : ℕ) → i < 64 → bit_at low i ≡ cond (nat_lt i (size - first)) 1 0) where
  abbrev left : ℕ
  left = bit_and (bit_and word low) (bit_not w64 taken)

  left_bit : (i : ℕ) → i < 64 → bit_at left i ≡ min (min (bit_at word i) (cond (nat_lt i (size - first)) 1 0)) (1 - bit_at taken i)
  left_bit i k = bit_at_and (bit_and word low) (bit_not w64 taken) i ∙ ap₂ min (bit_at_and word low i ∙ ap (min (bit_at word i)) (l i k)) (bit_at_not w64 taken i t k)

  found : 0 < left → HasLeftInWord word first size taken
  found some =
      let a = and_le_l (bit_and word low) (bit_not w64 taken) in
      let b = and_le_l word low in
      let s = bit_within left some (omega (arith, a, b, w)) in
      let i = s.0 in
      let lowest = bit_at-lt low i in
      let z = bit_at-lt taken i in
      let q = three (bit_at word i) (cond (nat_lt i (size - first)) 1 0) (1 - bit_at taken i) (sym (left_bit i s.1) ∙ s.2) (bit_at-lt word i) (subst (λ z. z < 2) (l i s.1) lowest) (omega (arith, z)) in
      let below = ltb-true i (size - first) (one_if (nat_lt i (size - first)) q.1) in
      (i, s.1, omega (arith, below), (λ e. (let c = q.2 in omega (arith, c, e))), q.0)

  none : left ≡ 0 → HasLeftInWord word first size taken → ⊥
  none e (i, k, below, other, is) =
      let zero : bit_at left i ≡ 0 = ap (λ z. bit_at z i) e ∙ bit_at-zero i in
      let a : flag (nat_lt i (size - first)) ≡ 1 = ap flag (lt-ltb i (size - first) (omega (arith, below))) in
      let c = one_of (bit_at taken i) (bit_at-lt taken i) other in
      let m = left_bit i k in
      omega (arith, zero, a, c, m, is)

  pub left_exact : (not (nat_eq left 0) ≡ true) ↔ HasLeftInWord word first size taken
  left_exact = (
    λ h. found (let n = eqb-false left 0 (not-true (nat_eq left 0) h) in omega (arith, n)),
    λ h. not_from_false (nat_eq left 0) (ne_eqb left 0 (λ e. none e h)),
  )

-- beside that of a value
pub word_exact : (word low one first size value : ℕ) → word < 2 ^ 64 → one < 2 ^ 64 → ((i : ℕ) → i < 64 → bit_at low i ≡ cond (nat_lt i (size - first)) 1 0) → ((i : ℕ) → i < 64 → bit_at one i ≡ cond (first + i == value) 1 0)
    → (not (nat_eq (bit_and (bit_and word low) (bit_not w64 one)) 0) ≡ true) ↔ HasOtherInWord word first size value
word_exact word low one first size value w o l b =
    let exact = left_exact word low one first size w o l in (
      λ h. (let x = exact.0 h in (x.0, x.1, x.2, (λ e. x.3 (b x.0 x.1 ∙ ap flag (eq-eqb (first + x.0) value e))), x.4)),
      λ (i, k, below, other, is). exact.1 (i, k, below, (λ e. other (eqb-true (first + i) value (one_if (first + i == value) (sym (b i k) ∙ e)))), is),
    )

-- ---- words of a row

-- a bit of the row is one of the word at its place
pub row_bit : (words : List ℕ) (start place i : ℕ) → start % 64 ≡ 0 → i < 64 → is_set words (start + (place * 64 + i)) ≡ nat_eq (bit_at (get_or words (start / 64 + place) 0) i) 1
row_bit words start place i m l =
    let at : (start + (place * 64 + i)) / 64 ≡ start / 64 + place = omega (arith, m, l) in
    let bit : (start + (place * 64 + i)) % 64 ≡ i = omega (arith, m, l) in
    ap₂ (λ p b. nat_eq (bit_at (get_or words p 0) b) 1) at bit

pub in_row : (words : List ℕ) (start place size value word : ℕ) → start % 64 ≡ 0 → word ≡ get_or words (start / 64 + place) 0 → HasOtherInWord word (place * 64) size value → HasOther words start size value
in_row words start place size value word m e (i, k, below, other, is) =
    (place * 64 + i, below, other, row_bit words start place i m k ∙ ap (λ z. nat_eq (bit_at z i) 1) (sym e) ∙ eq-eqb (bit_at word i) 1 is)

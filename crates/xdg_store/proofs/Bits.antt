-- A bit of the words.
use Rattle.std.proofs.Common.{◌≡◌, ◌≢◌, ℕ, ◌<◌, ◌+◌, ◌*◌, ◌/◌, ◌%◌, ◌^◌, inl, inr, true, false, List, ◌∷◌, length, get_or, set, ap, sym, ◌∙◌, arith}
use Rattle.std.specs.Prelude.{nat_eq}
use Rattle.std.specs.Int.{bit_at, bit_not, w64}
use lib.Bits.{bit_and}
use Rattle.std.proofs.lemmas.Bool.{cases_eq}
use Rattle.std.proofs.lemmas.List.{length-set, get_or-set_same, get_or-set_other}
use Rattle.std.proofs.lemmas.Nat.Bits.{bit_at_clear_same, bit_at_clear_other, shr_and_one}
use Rattle.xdg_store.specs.Layout.{is_set}
use Rattle.xdg_trail.specs.Trailed.{Trailed, past}
use Rattle.xdg_store.specs.Rows.{cleared, Clears}

-- what the code reads
pub read : (words : List ℕ) (bit w : ℕ) → w ≡ get_or words (bit / 64) 0 → nat_eq (bit_and (w / 2 ^ (bit % 64)) 1) 1 ≡ is_set words bit
read words bit w e = ap (λ m. nat_eq m 1) (shr_and_one w (bit % 64)) ∙ ap (λ z. nat_eq (bit_at z (bit % 64)) 1) e

-- what the code writes
abbrev pub without_bit : List ℕ → ℕ → ℕ
without_bit words bit = bit_and (get_or words (bit / 64) 0) (bit_not w64 (1 * 2 ^ (bit % 64) % 2 ^ 64))

pub cleared_same : (words : List ℕ) (bit : ℕ) → bit < 64 * length words → is_set (cleared words bit) bit ≡ false
unfolding cleared
cleared_same words bit l =
    let e = get_or-set_same words (bit / 64) (without_bit words bit) 0 (omega arith) in
    let z = bit_at_clear_same w64 (get_or words (bit / 64) 0) (bit % 64) (omega arith) in
    ap (λ w. nat_eq (bit_at w (bit % 64)) 1) e ∙ ap (λ m. nat_eq m 1) z

pub cleared_other : (words : List ℕ) (bit b : ℕ) → bit < 64 * length words → b ≢ bit → is_set (cleared words bit) b ≡ is_set words b
unfolding cleared
cleared_other words bit b l n =
    elim (cases_eq (bit / 64) (b / 64)) [
      | inl q ↦
          let d : b % 64 ≢ bit % 64 = λ m. n (omega arith) in
          let e : get_or (set words (bit / 64) (without_bit words bit)) (b / 64) 0 ≡ without_bit words bit = ap (λ p. get_or (set words (bit / 64) (without_bit words bit)) p 0) (sym q) ∙ get_or-set_same words (bit / 64) (without_bit words bit) 0 (omega arith) in
          let z = bit_at_clear_other w64 (get_or words (bit / 64) 0) (bit % 64) (omega arith) (b % 64) (omega arith) d in
          ap (λ w. nat_eq (bit_at w (b % 64)) 1) e ∙ ap (λ m. nat_eq m 1) z ∙ ap (λ p. nat_eq (bit_at (get_or words p 0) (b % 64)) 1) q
      | inr f ↦ ap (λ w. nat_eq (bit_at w (b % 64)) 1) (get_or-set_other words (bit / 64) (b / 64) (without_bit words bit) 0 (λ p. f (sym p)))
    ]

-- the word that is written differs, where the bit was set
pub cleared_differs : (words : List ℕ) (bit : ℕ) → is_set words bit ≡ true → get_or words (bit / 64) 0 ≢ without_bit words bit
cleared_differs words bit t e =
    let z = bit_at_clear_same w64 (get_or words (bit / 64) 0) (bit % 64) (omega arith) in
    let f : is_set words bit ≡ false = ap (λ w. nat_eq (bit_at w (bit % 64)) 1) e ∙ ap (λ m. nat_eq m 1) z in
    cc

pub length-cleared : (words : List ℕ) (bit : ℕ) → length (cleared words bit) ≡ length words
unfolding cleared
length-cleared words bit = length-set words (bit / 64) (without_bit words bit)

-- the word was written without the bit
pub clears_of : (t u : Trailed) (bit w : ℕ) → is_set t.words bit ≡ true → w ≡ get_or t.words (bit / 64) 0 → u.words ≡ set t.words (bit / 64) (bit_and w (bit_not w64 (1 * 2 ^ (bit % 64) % 2 ^ 64))) → (get_or t.words (bit / 64) 0 ≢ bit_and w (bit_not w64 (1 * 2 ^ (bit % 64) % 2 ^ 64)) → past u ≡ set t.words (bit / 64) (bit_and w (bit_not w64 (1 * 2 ^ (bit % 64) % 2 ^ 64))) ∷ past t) → u.spare + length u.records ≡ t.spare + length t.records → Clears t u bit
unfolding cleared
clears_of t u bit w is e words past_is room =
    let mask = bit_not w64 (1 * 2 ^ (bit % 64) % 2 ^ 64) in
    let differs : get_or t.words (bit / 64) 0 ≢ bit_and w mask = λ s. cleared_differs t.words bit is (s ∙ ap (λ z. bit_and z mask) e) in
    record {
      words = words ∙ ap (λ z. set t.words (bit / 64) (bit_and z mask)) e;
      past_is = past_is differs ∙ ap (λ z. set t.words (bit / 64) (bit_and z mask) ∷ past t) e;
      room = room;
    }

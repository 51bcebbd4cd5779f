-- Bits of words as flags.
use Rattle.std.proofs.Common.{◌≡◌, ◌≢◌, ℕ, zero, suc, ◌<◌, ◌≤◌, ◌+◌, ◌*◌, ◌/◌, ◌%◌, ◌^◌, inl, inr, Bool, true, false, List, ◌∷◌, length, get_or, set, map, ap, ap₂, sym, ◌∙◌, arith, subst, refl}
use Rattle.std.specs.Prelude.{nat_eq}
use Rattle.std.specs.Int.{bit_at, bit_not, trailing_zeros, w64}
use Rattle.std.specs.Int.RustNames.{bit_or}
use lib.Bits.{bit_and}
use Rattle.std.proofs.lemmas.Bool.{cases_eq, eq-eqb, eqb-true}
use Rattle.std.proofs.lemmas.Grind.{get_or_default_zero}
use Rattle.std.proofs.lemmas.List.{length-map, length-set, get_or-map, get_or-set_same, get_or-set_other}
use Rattle.std.proofs.lemmas.Nat.Bits.{bit_at-trailing_zeros, bit_at-zero, bit_at_set_same, bit_at_set_other, shr_and_one}
use Rattle.xdg_problem.specs.Places.{below, numbers_from}
use Rattle.xdg_problem.proofs.Ordered.{numbers_length}
use Rattle.xdg_store.specs.Layout.{is_set}
use Rattle.xdg_store.specs.Rows.{cleared}
use Rattle.xdg_store.proofs.Bits.{cleared_same, cleared_other, length-cleared}
use Rattle.xdg_store.proofs.Located.{number_at}
use Rattle.xdg_propcore.specs.Flags.{IsOn, flags_of, HoldsFlags}
use Rattle.xdg_facts.proofs.Lists.{true_within}

-- ---- reading

pub length_flags : (words : List ℕ) (count : ℕ) → length (flags_of words count) ≡ count
unfolding flags_of
length_flags words count = length-map (below count) (is_set words) ∙ numbers_length 0 count

pub flag_at : (words : List ℕ) (count at : ℕ) → at < count → get_or (flags_of words count) at false ≡ is_set words at
unfolding flags_of
flag_at words count at l = get_or-map (is_set words) (below count) at 0 false (let n = numbers_length 0 count in omega (arith, n, l)) ∙ ap (is_set words) (let e = number_at 0 count at 0 l in let q : get_or (below count) at 0 ≡ at = omega (arith, e) in q)

pub on_set : (words : List ℕ) (count at : ℕ) → IsOn (flags_of words count) at → is_set words at ≡ true
on_set words count at h =
    let w = true_within (flags_of words count) at h in
    let n = length_flags words count in
    sym (flag_at words count at (omega (arith, w, n))) ∙ h

pub set_on : (words : List ℕ) (count at : ℕ) → HoldsFlags words count → is_set words at ≡ true → IsOn (flags_of words count) at
set_on words count at holds e = flag_at words count at (holds.none at e) ∙ e

-- a bit that is read
pub read_on : (words : List ℕ) (count at w : ℕ) → HoldsFlags words count → w ≡ get_or words (at / 64) 0 → nat_eq (bit_and (w / 2 ^ (at % 64)) 1) 1 ≡ true → IsOn (flags_of words count) at
read_on words count at w holds is t = set_on words count at holds (ap (λ z. nat_eq (bit_at z (at % 64)) 1) (sym is) ∙ ap (λ b. nat_eq b 1) (sym (shr_and_one w (at % 64))) ∙ t)

-- ---- writing

mapped_same : (f g : ℕ → Bool) (first count : ℕ) → ((x : ℕ) → first ≤ x → g x ≡ f x) → map g (numbers_from first count) ≡ map f (numbers_from first count)
mapped_same f g first zero same = refl
mapped_same f g first (suc count) same = ap₂ (λ x xs. x ∷ xs) (same first (omega arith)) (mapped_same f g (suc first) count (λ x l. same x (omega (arith, l))))

mapped_set : (f g : ℕ → Bool) (flag : Bool) (first count i : ℕ) → g (first + i) ≡ flag → ((x : ℕ) → x ≢ first + i → g x ≡ f x) → map g (numbers_from first count) ≡ set (map f (numbers_from first count)) i flag
mapped_set f g flag first zero i e same = refl
mapped_set f g flag first (suc count) zero e same =
    let q : first + 0 ≡ first = omega arith in
    ap₂ (λ x xs. x ∷ xs) (sym (ap g q) ∙ e) (mapped_same f g (suc first) count (λ x l. same x (λ s. omega (arith, l, s))))
mapped_set f g flag first (suc count) (suc i) e same =
    let q : suc first + i ≡ first + suc i = omega arith in
    ap₂ (λ x xs. x ∷ xs) (same first (λ s. omega (arith, s))) (mapped_set f g flag (suc first) count i (ap g q ∙ e) (λ x n. same x (λ s. n (omega (arith, s)))))

flags_set : (words next : List ℕ) (flag : Bool) (count at : ℕ) → is_set next at ≡ flag → ((x : ℕ) → x ≢ at → is_set next x ≡ is_set words x) → flags_of next count ≡ set (flags_of words count) at flag
unfolding flags_of
flags_set words next flag count at e same =
    let q : 0 + at ≡ at = omega arith in
    mapped_set (is_set words) (is_set next) flag 0 count at (ap (is_set next) q ∙ e) (λ x n. same x (λ s. n (s ∙ sym q)))

holds_still : (words next : List ℕ) (count at : ℕ) → HoldsFlags words count → length next ≡ length words → at < count → ((x : ℕ) → x ≢ at → is_set next x ≡ is_set words x) → HoldsFlags next count
holds_still words next count at holds l within same = record {
  small = holds.small;
  room = (let r = holds.room in omega (arith, r, l));
  tight = (let t = holds.tight in omega (arith, t, l));
  none = λ x e. elim (cases_eq x at) [
    | inl q ↦ omega (arith, q, within)
    | inr n ↦ holds.none x (sym (same x n) ∙ e)
  ];
}

-- ---- setting a bit

abbrev with_bit : List ℕ → ℕ → ℕ → List ℕ
with_bit words bit w = set words (bit / 64) (bit_or w (1 * 2 ^ (bit % 64) % 2 ^ 64))

set_same : (words : List ℕ) (bit w : ℕ) → bit < 64 * length words → is_set (with_bit words bit w) bit ≡ true
set_same words bit w l =
    let e = get_or-set_same words (bit / 64) (bit_or w (1 * 2 ^ (bit % 64) % 2 ^ 64)) 0 (omega arith) in
    let z = bit_at_set_same w64 w (bit % 64) (omega arith) in
    ap (λ n. nat_eq (bit_at n (bit % 64)) 1) e ∙ eq-eqb (bit_at (bit_or w (1 * 2 ^ (bit % 64) % 2 ^ 64)) (bit % 64)) 1 z

set_other : (words : List ℕ) (bit w x : ℕ) → bit < 64 * length words → w ≡ get_or words (bit / 64) 0 → x ≢ bit → is_set (with_bit words bit w) x ≡ is_set words x
set_other words bit w x l is n =
    let new = bit_or w (1 * 2 ^ (bit % 64) % 2 ^ 64) in
    elim (cases_eq (bit / 64) (x / 64)) [
      | inl q ↦
          let d : x % 64 ≢ bit % 64 = λ m. n (omega arith) in
          let e : get_or (set words (bit / 64) new) (x / 64) 0 ≡ new = ap (λ p. get_or (set words (bit / 64) new) p 0) (sym q) ∙ get_or-set_same words (bit / 64) new 0 (omega arith) in
          let z = bit_at_set_other w64 w (bit % 64) (omega arith) (x % 64) d in
          ap (λ m. nat_eq (bit_at m (x % 64)) 1) e ∙ ap (λ m. nat_eq m 1) z ∙ ap (λ m. nat_eq (bit_at m (x % 64)) 1) is ∙ ap (λ p. nat_eq (bit_at (get_or words p 0) (x % 64)) 1) q
      | inr f ↦ ap (λ m. nat_eq (bit_at m (x % 64)) 1) (get_or-set_other words (bit / 64) (x / 64) new 0 (λ p. f (sym p)))
    ]

pub place_within : (words : List ℕ) (count at : ℕ) → HoldsFlags words count → at < count → at / 64 < length words
place_within words count at holds within = let r = holds.room in omega (arith, r, within)

pub within_seen : (words : List ℕ) (count at : ℕ) (flags : List Bool) → flags_of words count ≡ flags → at < length flags → at < count
within_seen words count at flags seen l = let n = length_flags words count in let v = ap length seen in omega (arith, n, v, l)

-- the words are seen as the flags, and w is the word with the bit
module _ (words : List ℕ) (count at w : ℕ) (flags : List Bool) (holds : HoldsFlags words count) (seen : flags_of words count ≡ flags) (l : at < length flags) (w_is : w ≡ get_or words (at / 64) w) where
  within : at < count
  within = within_seen words count at flags seen l

  is : w ≡ get_or words (at / 64) 0
  is = w_is ∙ get_or_default_zero words (at / 64) w (place_within words count at holds within)

  room : at < 64 * length words
  room = let r = holds.room in let i = within in omega (arith, r, i)

  pub woken_holds : HoldsFlags (set words (at / 64) (bit_or w (1 * 2 ^ (at % 64) % 2 ^ 64))) count
  woken_holds = holds_still words (with_bit words at w) count at holds (length-set words (at / 64) (bit_or w (1 * 2 ^ (at % 64) % 2 ^ 64))) within (λ x n. set_other words at w x room is n)

  pub woken_flags : flags_of (set words (at / 64) (bit_or w (1 * 2 ^ (at % 64) % 2 ^ 64))) count ≡ set flags at true
  woken_flags = flags_set words (with_bit words at w) true count at (set_same words at w room) (λ x n. set_other words at w x room is n) ∙ ap (λ z. set z at true) seen

  asleep_is : cleared words at ≡ set words (at / 64) (bit_and w (bit_not w64 (1 * 2 ^ (at % 64) % 2 ^ 64)))
  unfolding cleared
  asleep_is = ap (λ z. set words (at / 64) (bit_and z (bit_not w64 (1 * 2 ^ (at % 64) % 2 ^ 64)))) (sym is)

  pub asleep_holds : HoldsFlags (set words (at / 64) (bit_and w (bit_not w64 (1 * 2 ^ (at % 64) % 2 ^ 64)))) count
  asleep_holds = subst (λ z. HoldsFlags z count) asleep_is (holds_still words (cleared words at) count at holds (length-cleared words at) within (λ x n. cleared_other words at x room n))

  pub asleep_flags : flags_of (set words (at / 64) (bit_and w (bit_not w64 (1 * 2 ^ (at % 64) % 2 ^ 64)))) count ≡ set flags at false
  asleep_flags = ap (λ z. flags_of z count) (sym asleep_is) ∙ flags_set words (cleared words at) false count at (cleared_same words at room) (λ x n. cleared_other words at x room n) ∙ ap (λ z. set z at false) seen

-- ---- the first bit that is set

pub bit_in_word : (words : List ℕ) (place i w : ℕ) → i < 64 → w ≡ get_or words place 0 → is_set words (place * 64 + i) ≡ nat_eq (bit_at w i) 1
bit_in_word words place i w l is =
    let at : (place * 64 + i) / 64 ≡ place = omega (arith, l) in
    let bit : (place * 64 + i) % 64 ≡ i = omega (arith, l) in
    ap₂ (λ p b. nat_eq (bit_at (get_or words p 0) b) 1) at bit ∙ ap (λ z. nat_eq (bit_at z i) 1) (sym is)

pub lowest_set : (words : List ℕ) (place w : ℕ) → w < 2 ^ 64 → w ≢ 0 → w ≡ get_or words place 0 → is_set words (place * 64 + trailing_zeros w64 w) ≡ true
lowest_set words place w small some is =
    let t = bit_at-trailing_zeros w64 w (omega (arith, some)) small in
    bit_in_word words place (trailing_zeros w64 w) w t.0 is ∙ eq-eqb (bit_at w (trailing_zeros w64 w)) 1 t.1

-- a word that is 0 has no bit
pub none_in_word : (words : List ℕ) (place b w : ℕ) → w ≡ 0 → w ≡ get_or words place 0 → place * 64 ≤ b → b < (place + 1) * 64 → is_set words b ≡ true → ⊥
none_in_word words place b w none is low high e =
    let i : ℕ = b % 64 in
    let back : place * 64 + i ≡ b = omega (arith, low, high) in
    let s = bit_in_word words place i w (omega arith) is in
    let z = eqb-true (bit_at w i) 1 (sym s ∙ ap (is_set words) back ∙ e) in
    let q = ap (λ n. bit_at n i) none ∙ bit_at-zero i in
    omega (arith, z, q)

-- ---- the loop over words

pub small_place : (words : List ℕ) (count place : ℕ) → HoldsFlags words count → place < length words → place * 64 ≤ count
small_place words count place holds l = let t = holds.tight in omega (arith, t, l)

pub lowest_within : (words : List ℕ) (count place w : ℕ) → HoldsFlags words count → w < 2 ^ 64 → w ≢ 0 → w ≡ get_or words place 0 → place * 64 + trailing_zeros w64 w < count
lowest_within words count place w holds small some is = holds.none (place * 64 + trailing_zeros w64 w) (lowest_set words place w small some is)

pub lowest_on : (words : List ℕ) (count place w : ℕ) → HoldsFlags words count → w < 2 ^ 64 → w ≢ 0 → w ≡ get_or words place 0 → IsOn (flags_of words count) (place * 64 + trailing_zeros w64 w)
lowest_on words count place w holds small some is = set_on words count (place * 64 + trailing_zeros w64 w) holds (lowest_set words place w small some is)

pub none_on : (words : List ℕ) (count : ℕ) → HoldsFlags words count → ((b : ℕ) → b < length words * 64 → is_set words b ≡ true → ⊥) → (at : ℕ) → IsOn (flags_of words count) at → ⊥
none_on words count holds n at h =
    let e = on_set words count at h in
    let w = holds.none at e in
    let r = holds.room in
    n at (omega (arith, w, r)) e

-- ---- setting all

pub more_on : (flags next : List Bool) (k : ℕ) → k < length flags → next ≡ set flags k true → ((at : ℕ) → at < k → IsOn flags at) → (at : ℕ) → at < k + 1 → IsOn next at
more_on flags next k within is on at l = subst (λ z. IsOn z at) (sym is) (elim (cases_eq k at) [
  | inl q ↦ subst (λ p. IsOn (set flags k true) p) q (get_or-set_same flags k true false within)
  | inr n ↦ get_or-set_other flags k at true false (λ s. n (sym s)) ∙ on at (omega (arith, l, n))
])

-- ---- clearing all

none_set : (words : List ℕ) → ((place : ℕ) → get_or words place 0 ≡ 0) → (bit : ℕ) → is_set words bit ≡ true → ⊥
none_set words zeros bit e =
    let one = eqb-true (bit_at (get_or words (bit / 64) 0) (bit % 64)) 1 e in
    let z = ap (λ w. bit_at w (bit % 64)) (zeros (bit / 64)) ∙ bit_at-zero (bit % 64) in
    omega (arith, one, z)

pub cleared_off : (next : List ℕ) (count : ℕ) → ((place : ℕ) → get_or next place 0 ≡ 0) → (at : ℕ) → IsOn (flags_of next count) at → ⊥
cleared_off next count zeros at h = none_set next zeros at (on_set next count at h)

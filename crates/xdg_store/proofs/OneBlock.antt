-- Several bits of one word of a row.
use Rattle.std.proofs.Common.{◌≡◌, ◌≢◌, ◌⊎◌, ℕ, ◌<◌, ◌≤◌, ◌+◌, ◌-◌, ◌*◌, ◌/◌, ◌%◌, ◌^◌, ◌↔◌, inl, inr, true, false, cond, List, ◌∷◌, length, get_or, set, refl, ap, sym, ◌∙◌, arith, subst}
use Rattle.std.specs.Prelude.{nat_eq, nat_lt}
use Rattle.std.specs.Int.{bit_at, bit_not, w64}
use Prim.Native.Nat.{min}
use lib.Bits.{bit_and}
use Rattle.std.proofs.lemmas.Bool.{cases_eq, cases_lt, eq-eqb, eqb-true, lt-ltb, ltb-true}
use Rattle.std.proofs.lemmas.List.{length-set, get_or-set_same, get_or-set_other}
use Rattle.std.proofs.lemmas.Nat.{and_le_l}
use Rattle.std.proofs.lemmas.Nat.Bits.{bit_at-lt, bit_at-zero, bit_at_and, bit_at_not}
use Rattle.xdg_trail.specs.Trailed.{Trailed, past}
use Rattle.xdg_store.specs.Change.{IsTaken}
use Rattle.xdg_store.specs.Layout.{is_set}
use Rattle.xdg_store.specs.Rows.{ClearsAll, HasLeft, HasLeftInWord, HasOther}
use Rattle.xdg_store.proofs.OneWord.{flag, one_if, row_bit}
use Rattle.xdg_facts.proofs.Words.{one_of, bit_within, three}

-- ---- what is taken

abbrev pub as_taken : (block taken v : ℕ) → block * 64 ≤ v → v < block * 64 + 64 → bit_at taken (v - block * 64) ≡ 1 → IsTaken block taken v
as_taken block taken v a b e = record { from = a; below = b; bit = e }

-- a value is taken or not
pub taken_or : (block taken v : ℕ) → IsTaken block taken v ⊎ (IsTaken block taken v → ⊥)
taken_or block taken v = elim (cases_lt v (block * 64)) [
  | inl low ↦ inr (λ t. (let a = t.from in omega (arith, a, low)))
  | inr a ↦ elim (cases_lt v (block * 64 + 64)) [
    | inr high ↦ inr (λ t. (let b = t.below in omega (arith, b, high)))
    | inl b ↦ elim (cases_eq (bit_at taken (v - block * 64)) 1) [
      | inl e ↦ inl (as_taken block taken v a b e)
      | inr n ↦ inr (λ t. n t.bit)
    ]
  ]
]

-- by the word at a place of the row
pub taken_here : (block taken place i : ℕ) → place ≡ block → i < 64 → (bit_at taken i ≡ 1) ↔ IsTaken block taken (place * 64 + i)
taken_here block taken place i same l =
    let e : (place * 64 + i) - block * 64 ≡ i = omega (arith, same, l) in (
      λ h. as_taken block taken (place * 64 + i) (omega (arith, same)) (omega (arith, same, l)) (ap (bit_at taken) e ∙ h),
      λ t. sym (ap (bit_at taken) e) ∙ t.bit,
    )

pub taken_nowhere : (block taken place i : ℕ) → place ≢ block → i < 64 → (bit_at 0 i ≡ 1) ↔ IsTaken block taken (place * 64 + i)
taken_nowhere block taken place i other l = (
  λ h. absurd (let z = bit_at-zero i in omega (arith, h, z)),
  λ t. absurd (other (let a = t.from in let b = t.below in omega (arith, a, b, l))),
)

-- ---- a row

module _ (words : List ℕ) (start size block taken place word here : ℕ) (m : start % 64 ≡ 0) (e : word ≡ get_or words (start / 64 + place) 0) (is : (i : ℕ) → i < 64 → (bit_at here i ≡ 1) ↔ IsTaken block taken (place * 64 + i)) where
  set_here : (i : ℕ) → i < 64 → bit_at word i ≡ 1 → is_set words (start + (place * 64 + i)) ≡ true
  set_here i l h = row_bit words start place i m l ∙ ap (λ z. nat_eq (bit_at z i) 1) (sym e) ∙ eq-eqb (bit_at word i) 1 h

  one_here : (i : ℕ) → i < 64 → is_set words (start + (place * 64 + i)) ≡ true → bit_at word i ≡ 1
  one_here i l h = eqb-true (bit_at word i) 1 (ap (λ z. nat_eq (bit_at z i) 1) e ∙ sym (row_bit words start place i m l) ∙ h)

  -- a word with such a bit
  pub left_in_row : HasLeftInWord word (place * 64) size here → HasLeft words start size block taken
  left_in_row (i, k, below, other, one) = (place * 64 + i, below, (λ t. other ((is i k).1 t)), set_here i k one)

  -- a word without
  pub left_behind : ((x : ℕ) → x < place * 64 → x < size → (IsTaken block taken x → ⊥) → is_set words (start + x) ≡ true → ⊥) → (HasLeftInWord word (place * 64) size here → ⊥)
      → (x : ℕ) → x < (place + 1) * 64 → x < size → (IsTaken block taken x → ⊥) → is_set words (start + x) ≡ true → ⊥
  left_behind before none x l s n h = elim (cases_lt x (place * 64)) [
    | inl b ↦ before x b s n h
    | inr b ↦
        let i = x - place * 64 in
        let k : i < 64 = omega (arith, l, b) in
        let x_is : x ≡ place * 64 + i = omega (arith, b) in
        none (i, k, omega (arith, b, s), (λ one. n (subst (IsTaken block taken) (sym x_is) ((is i k).0 one))), one_here i k (ap (λ z. is_set words (start + z)) (sym x_is) ∙ h))
  ]

-- ---- what is cleared

-- those bits of a word that are taken, and the word without them
abbrev pub gone_of : ℕ → ℕ → ℕ → ℕ
gone_of word low taken = bit_and (bit_and word low) taken

abbrev pub kept_of : ℕ → ℕ → ℕ → ℕ
kept_of word low taken = bit_and word (bit_not w64 (gone_of word low taken))

module _ (words : List ℕ) (start size block taken word low : ℕ) (m : start % 64 ≡ 0) (e : word ≡ get_or words (start / 64 + block) 0) (w : word < 2 ^ 64) (l : (i : ℕ) → i < 64 → bit_at low i ≡ cond (nat_lt i (size - block * 64)) 1 0) where
  abbrev gone : ℕ
  gone = gone_of word low taken

  gone_bit : (i : ℕ) → i < 64 → bit_at gone i ≡ min (min (bit_at word i) (cond (nat_lt i (size - block * 64)) 1 0)) (bit_at taken i)
  gone_bit i k = bit_at_and (bit_and word low) taken i ∙ ap (λ z. min z (bit_at taken i)) (bit_at_and word low i ∙ ap (min (bit_at word i)) (l i k))

  abbrev Found : Type 0
  Found = (v : ℕ) × (v < size) × IsTaken block taken v × (is_set words (start + v) ≡ true)

  is_taken : (i : ℕ) → i < 64 → bit_at taken i ≡ 1 → IsTaken block taken (block * 64 + i)
  is_taken i k = (taken_here block taken block i refl k).0

  -- what a bit that goes says
  parts_of : (i : ℕ) → i < 64 → bit_at gone i ≡ 1 → (bit_at word i ≡ 1) × (block * 64 + i < size) × (bit_at taken i ≡ 1)
  parts_of i k h =
      let lowest = bit_at-lt low i in
      let q = three (bit_at word i) (cond (nat_lt i (size - block * 64)) 1 0) (bit_at taken i) (sym (gone_bit i k) ∙ h) (bit_at-lt word i) (subst (λ z. z < 2) (l i k) lowest) (bit_at-lt taken i) in
      let below = ltb-true i (size - block * 64) (one_if (nat_lt i (size - block * 64)) q.1) in
      (q.0, omega (arith, below), q.2)

  -- a bit of the word that is taken goes
  same_gone : (v : ℕ) → v < size → IsTaken block taken v → bit_at gone (v - block * 64) ≡ bit_at word (v - block * 64)
  same_gone v s t =
      let from = t.from in
      let below = t.below in
      let i = v - block * 64 in
      let a : flag (nat_lt i (size - block * 64)) ≡ 1 = ap flag (lt-ltb i (size - block * 64) (omega (arith, s, from))) in
      let b = t.bit in
      let c = bit_at-lt word i in
      let g = gone_bit i (omega (arith, from, below)) in
      omega (arith, a, b, c, g)

  value_is : (v : ℕ) → IsTaken block taken v → block * 64 + (v - block * 64) ≡ v
  value_is v t = (let a = t.from in omega (arith, a))

  pub some_gone : gone ≢ 0 → Found
  some_gone n =
      let a = and_le_l (bit_and word low) taken in
      let b = and_le_l word low in
      let s = bit_within gone (omega (arith, n)) (omega (arith, a, b, w)) in
      let i = s.0 in
      let p = parts_of i s.1 s.2 in
      (block * 64 + i, p.1, is_taken i s.1 p.2, row_bit words start block i m s.1 ∙ ap (λ z. nat_eq (bit_at z i) 1) (sym e) ∙ eq-eqb (bit_at word i) 1 p.0)

  pub none_gone : gone ≡ 0 → (v : ℕ) → v < size → IsTaken block taken v → is_set words (start + v) ≡ true → ⊥
  none_gone zero v s t h =
      let i = v - block * 64 in
      let k : i < 64 = (let a = t.from in let b = t.below in omega (arith, a, b)) in
      let z : bit_at gone i ≡ 0 = ap (λ q. bit_at q i) zero ∙ bit_at-zero i in
      let g = same_gone v s t in
      let one : bit_at word i ≡ 1 = eqb-true (bit_at word i) 1 (ap (λ q. nat_eq (bit_at q i) 1) e ∙ sym (row_bit words start block i m k) ∙ ap (λ q. is_set words (start + q)) (value_is v t) ∙ h) in
      omega (arith, z, g, one)

  -- one that goes and one that is left are two
  pub two_set : HasLeft words start size block taken → (v : ℕ) → IsTaken block taken v → HasOther words start size v
  two_set (x, s, n, h) v t = (x, s, (λ same. n (subst (IsTaken block taken) (sym same) t)), h)

  abbrev kept : ℕ
  kept = kept_of word low taken

  gone_small : gone < 2 ^ 64
  gone_small = (let a = and_le_l (bit_and word low) taken in let b = and_le_l word low in omega (arith, a, b, w))

  kept_bit : (i : ℕ) → i < 64 → bit_at kept i ≡ min (bit_at word i) (1 - bit_at gone i)
  kept_bit i k = bit_at_and word (bit_not w64 gone) i ∙ ap (min (bit_at word i)) (bit_at_not w64 gone i gone_small k)

  abbrev after : List ℕ
  after = set words (start / 64 + block) kept

  module _ (within : start / 64 + block < length words) where
    bit_after : (i : ℕ) → i < 64 → is_set after (start + (block * 64 + i)) ≡ nat_eq (bit_at kept i) 1
    bit_after i k = row_bit after start block i m k ∙ ap (λ z. nat_eq (bit_at z i) 1) (get_or-set_same words (start / 64 + block) kept 0 within)

    cleared_gone : (v : ℕ) → v < size → IsTaken block taken v → is_set after (start + v) ≡ false
    cleared_gone v s t =
        let i = v - block * 64 in
        let k : i < 64 = (let a = t.from in let b = t.below in omega (arith, a, b)) in
        let g = same_gone v s t in
        let c = bit_at-lt word i in
        let q = kept_bit i k in
        let z : bit_at kept i ≡ 0 = omega (arith, g, c, q) in
        ap (λ q. is_set after (start + q)) (sym (value_is v t)) ∙ bit_after i k ∙ ap (λ b. nat_eq b 1) z

    cleared_others : (b : ℕ) → ((v : ℕ) → v < size → IsTaken block taken v → b ≢ start + v) → is_set after b ≡ is_set words b
    cleared_others b other = elim (cases_eq (b / 64) (start / 64 + block)) [
      | inr n ↦ ap (λ z. nat_eq (bit_at z (b % 64)) 1) (get_or-set_other words (start / 64 + block) (b / 64) kept 0 n)
      | inl same ↦
          let i = b % 64 in
          let k : i < 64 = omega arith in
          let b_is : b ≡ start + (block * 64 + i) = omega (arith, same, m) in
          let z : bit_at gone i ≡ 0 = one_of (bit_at gone i) (bit_at-lt gone i) (λ h. (let p = parts_of i k h in other (block * 64 + i) p.1 (is_taken i k p.2) b_is)) in
          let q = kept_bit i k in
          let c = bit_at-lt word i in
          let stays : bit_at kept i ≡ bit_at word i = omega (arith, z, q, c) in
          ap (is_set after) b_is ∙ bit_after i k ∙ ap (λ b. nat_eq b 1) stays ∙ ap (λ z. nat_eq (bit_at z i) 1) e ∙ sym (row_bit words start block i m k) ∙ ap (is_set words) (sym b_is)
    ]

    differs : Found → get_or words (start / 64 + block) 0 ≢ kept
    differs (v, s, t, h) same =
        let q : is_set after (start + v) ≡ is_set words (start + v) =
        ap (λ q. is_set after (start + q)) (sym (value_is v t)) ∙ bit_after (v - block * 64) (let a = t.from in let b = t.below in omega (arith, a, b))
        ∙ ap (λ z. nat_eq (bit_at z (v - block * 64)) 1) (sym same)
        ∙ sym (row_bit words start block (v - block * 64) m (let a = t.from in let b = t.below in omega (arith, a, b))) ∙ ap (λ q. is_set words (start + q)) (value_is v t) in
        let f = cleared_gone v s t in
        cc

-- the word was written without the bits that are taken
pub clears_all : (t u : Trailed) (start size block taken word low : ℕ) → start % 64 ≡ 0 → word ≡ get_or t.words (start / 64 + block) 0 → word < 2 ^ 64 → ((i : ℕ) → i < 64 → bit_at low i ≡ cond (nat_lt i (size - block * 64)) 1 0)
    → start / 64 + block < length t.words → gone_of word low taken ≢ 0
    → u.words ≡ set t.words (start / 64 + block) (kept_of word low taken)
    → (get_or t.words (start / 64 + block) 0 ≢ kept_of word low taken → past u ≡ set t.words (start / 64 + block) (kept_of word low taken) ∷ past t)
    → u.spare + length u.records ≡ t.spare + length t.records → ClearsAll t u start size block taken
clears_all t u start size block taken word low m e w l within some words past_is room =
    let found = some_gone t.words start size block taken word low m e w l some in
    record {
      count = ap length words ∙ length-set t.words (start / 64 + block) _;
      gone = λ v s i. ap (λ z. is_set z (start + v)) words ∙ cleared_gone t.words start size block taken word low m e w l within v s i;
      others = λ b n. ap (λ z. is_set z b) words ∙ cleared_others t.words start size block taken word low m e w l within b n;
      past_is = past_is (differs t.words start size block taken word low m e w l within found) ∙ ap (λ z. z ∷ past t) (sym words);
      room = room;
    }

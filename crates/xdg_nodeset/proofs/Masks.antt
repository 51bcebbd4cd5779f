-- What an operation on bits does to the members.
use Rattle.std.proofs.Common.{◌≡◌, ℕ, ◌<◌, ◌≤◌, ◌+◌, ◌-◌, ◌*◌, ◌%◌, ◌^◌, [], ◌∷◌, ◌++◌, refl, ap, ap₂, sym, ◌∙◌, arith, inl, inr, bit_and, bit_or}
use Rattle.std.specs.Prelude.{not, ◌&&◌, ◌||◌, ◌==◌, nat_lt}
use Rattle.std.specs.Int.{bit_at, bit_not, w128, trailing_zeros, leading_zeros}
use Prim.Native.Nat.{min, max}
use Rattle.std.proofs.lemmas.Nat.{one_shl}
use Rattle.std.proofs.lemmas.Nat.Bits.{bit_at_and, bit_at_or, bit_at_not, bit_at_clear_same, bit_at_clear_other, bit_at_mask_inside, bit_at_mask_below, bit_at_mask_above}
use Rattle.std.proofs.lemmas.Bool.{cases_eq, cases_lt, eq-eqb, ne_eqb, lt-ltb, le-ltb}
use Rattle.xdg_nodeset.specs.Nodes.{nodes, IsNodes, without, union, minus, between}
use Rattle.xdg_facts.specs.Rises.{has}
use Rattle.xdg_facts.specs.BitSets.{is_set, members}
use Rattle.xdg_facts.proofs.Rising.{numbers_agree, numbers_whole, but, first_of, last_of, rises_of, few_of}
use Rattle.xdg_facts.proofs.BitMembers.{has_members, by_bits, lowest_bit, highest_bit}

pub members_are_nodes : (b : ℕ) → IsNodes (members b)
members_are_nodes b = record { rises = rises_of 128 (is_set b); whole = numbers_whole 128 (is_set b); few = few_of 128 (is_set b) }

pub union_bits : (a b : ℕ) → members (bit_or a b) ≡ union (members a) (members b)
union_bits a b = by_bits max (λ x y. x || y) refl refl refl refl a b (bit_or a b) (λ n _. bit_at_or a b n)

pub minus_bits : (a b : ℕ) → b < 2 ^ 128 → members (bit_and a (bit_not w128 b)) ≡ minus (members a) (members b)
minus_bits a b within = by_bits (λ x y. min x (1 - y)) (λ x y. x && not y) refl refl refl refl a b (bit_and a (bit_not w128 b))
    (λ n below. bit_at_and a (bit_not w128 b) n ∙ ap (λ z. min (bit_at a n) z) (bit_at_not w128 b n within below))

pub without_bits : (b n : ℕ) → n < 128 → members (bit_and b (bit_not w128 (1 * 2 ^ n % 2 ^ 128))) ≡ without (members b) n
without_bits b n within = numbers_agree 128 (is_set (bit_and b (bit_not w128 (1 * 2 ^ n % 2 ^ 128)))) (λ m. not (m == n) && has (members b) m) (λ m below. elim (cases_eq m n) [
  | inl e ↦ ap (λ z. bit_at (bit_and b (bit_not w128 (1 * 2 ^ n % 2 ^ 128))) z == 1) e ∙ ap (λ z. z == 1) (bit_at_clear_same w128 b n within) ∙ sym (ap (λ t. not t && has (members b) m) (eq-eqb m n e))
  | inr other ↦ ap (λ z. z == 1) (bit_at_clear_other w128 b n within m below other) ∙ sym (has_members b m below) ∙ sym (ap (λ t. not t && has (members b) m) (ne_eqb m n other))
])

-- ---- how many, the first and the last

others : (b k : ℕ) → nodes (but (is_set b) k) ≡ without (members b) k
others b k = numbers_agree 128 (but (is_set b) k) (λ m. not (m == k) && has (members b) m) (λ m below. ap (λ t. not (m == k) && t) (sym (has_members b m below)))

pub first_bit : (b : ℕ) → 0 < b → b < 2 ^ 128 → (members b ≡ trailing_zeros w128 b ∷ without (members b) (trailing_zeros w128 b)) × (trailing_zeros w128 b < 128)
first_bit b some within =
    let is = lowest_bit b some within in
    let k = trailing_zeros w128 b in
    (first_of 128 (is_set b) k is.0 is.1 is.2 ∙ ap (λ s. k ∷ s) (others b k), is.0)

pub last_bit : (b : ℕ) → 0 < b → b < 2 ^ 128 → (members b ≡ without (members b) (127 - leading_zeros w128 b) ++ (127 - leading_zeros w128 b) ∷ []) × (127 - leading_zeros w128 b < 128)
last_bit b some within =
    let is = highest_bit b some within in
    let k = 127 - leading_zeros w128 b in
    (last_of 128 (is_set b) k is.0 is.1 is.2 ∙ ap (λ s. s ++ k ∷ []) (others b k), is.0)

-- ---- between two nodes

strictly_between : (low high : ℕ) → low ≤ high → high < 128 → members (bit_and ((1 * 2 ^ high % 2 ^ 128) - (1 * 2 ^ low % 2 ^ 128)) (bit_not w128 (1 * 2 ^ low % 2 ^ 128))) ≡ nodes (λ n. nat_lt low n && nat_lt n high)
strictly_between low high order within =
    let mask = (1 * 2 ^ high % 2 ^ 128) - (1 * 2 ^ low % 2 ^ 128) in
    let low_within : low < 128 = omega (arith, order, within) in
    let is : mask ≡ 2 ^ high - 2 ^ low = ap₂ (λ x y. x - y) (one_shl high 128 within) (one_shl low 128 low_within) in
    numbers_agree 128 (is_set (bit_and mask (bit_not w128 (1 * 2 ^ low % 2 ^ 128)))) (λ n. nat_lt low n && nat_lt n high) (λ n below. elim (cases_eq n low) [
      | inl e ↦ ap (λ z. bit_at (bit_and mask (bit_not w128 (1 * 2 ^ low % 2 ^ 128))) z == 1) e ∙ ap (λ z. z == 1) (bit_at_clear_same w128 mask low low_within)
          ∙ sym (ap (λ t. t && nat_lt n high) (le-ltb low n (omega (arith, e))))
      | inr other ↦ ap (λ z. z == 1) (bit_at_clear_other w128 mask low low_within n below other ∙ ap (λ z. bit_at z n) is) ∙ inside low high n other
    ])
  where
    inside : (low high n : ℕ) → (n ≡ low → ⊥) → (bit_at (2 ^ high - 2 ^ low) n == 1) ≡ (nat_lt low n && nat_lt n high)
    inside low high n other = elim (cases_lt n low) [
      | inl less ↦ ap (λ z. z == 1) (bit_at_mask_below low high n less) ∙ sym (ap (λ t. t && nat_lt n high) (le-ltb low n (omega (arith, less))))
      | inr more ↦ elim (cases_lt n high) [
        | inl below ↦ ap (λ z. z == 1) (bit_at_mask_inside low high n more below) ∙ sym (ap₂ (λ x y. x && y) (lt-ltb low n (omega (arith, more, other))) (lt-ltb n high below))
        | inr above ↦ ap (λ z. z == 1) (bit_at_mask_above low high n above) ∙ sym (ap₂ (λ x y. x && y) (lt-ltb low n (omega (arith, more, other))) (le-ltb n high above))
      ]
    ]

pub between_bits : (a b : ℕ) → a < 128 → b < 128 → members (bit_and ((1 * 2 ^ max a b % 2 ^ 128) - (1 * 2 ^ min a b % 2 ^ 128)) (bit_not w128 (1 * 2 ^ min a b % 2 ^ 128))) ≡ between a b
between_bits a b h k = strictly_between (min a b) (max a b) (omega arith) (omega (arith, h, k))

-- ---- two numbers are equal where they stand for equal lists

-- What stands in the list of a number's bits.
use Rattle.std.proofs.Common.{◌≡◌, ◌↔◌, ℕ, ◌<◌, ◌-◌, ◌*◌, ◌/◌, ◌%◌, ◌^◌, suc, [], refl, ap, ap₂, sym, ◌∙◌, arith, inl, inr, bit_and, bit_or, ◌≤◌, ◌∷◌, zero, length, ◌+◌}
use Rattle.std.specs.Prelude.{Bool, true, false, ◌&&◌, ◌||◌, ◌==◌, not, filter, nat_eq}
use Rattle.std.specs.Int.{bit_at, w128, trailing_zeros, leading_zeros}
use Prim.Native.Nat.{min, max}
use Rattle.std.proofs.lemmas.Nat.{leading_top, and_le_l, pow_pos, one_shl, or_lt, le_or_l, ones_le_self, zero_from_ones, ones_cat}
use Rattle.std.proofs.lemmas.Nat.Bits.{shr_and_one, bit_at_and, bit_at-lt, bit_at-zero, bit_at_set_same, bit_at_set_other, bit_at-trailing_zeros, bit_at_above, bit_at_mask_inside}
use Rattle.std.proofs.lemmas.Bool.{cases_eq, eq-eqb, ne_eqb, eqb-true, cases_lt, cond_both}
use Rattle.xdg_facts.proofs.Bits.{top_bit, halves}
use Rattle.xdg_facts.proofs.Numbers.{below_two, unset, zero_below_one}
use Rattle.xdg_facts.proofs.Weights.{same_number}
use Rattle.xdg_facts.specs.Rises.{has, numbers_below}
use Rattle.xdg_facts.specs.BitSets.{is_set, members, number}
use Rattle.xdg_facts.proofs.Rising.{numbers_agree, none_of, has_of, has_beyond, but, first_of}
use Rattle.std.proofs.Math.Nat.{pow-suc}
use Rattle.std.proofs.Math.Pow.{pow_mono}
use Rattle.std.proofs.lemmas.Bool.Decides.{same_from_decides}
use Rattle.std.proofs.lemmas.Slice.Eq.{bytes_eq-Decides}
use Rattle.std.specs.Cmp.Lexicographic.{pointwise}
use Rattle.std.specs.Int.Bits.{or_zero_l}
use Rattle.std.specs.Int.RustNames.{count_ones}
use Rattle.std.specs.List.{range_with_len}
use Rattle.xdg_facts.proofs.Truths.{apart}

at_bits : (f g : ℕ → ℕ → Bool) → f 0 0 ≡ g 0 0 → f 0 1 ≡ g 0 1 → f 1 0 ≡ g 1 0 → f 1 1 ≡ g 1 1 → (x y : ℕ) → x < 2 → y < 2 → f x y ≡ g x y
at_bits f g a b c d x y h k = elim (below_two x h) [
  | inl e ↦ elim (below_two y k) [ inl i ↦ ap₂ f e i ∙ a ∙ sym (ap₂ g e i) | inr i ↦ ap₂ f e i ∙ b ∙ sym (ap₂ g e i) ]
  | inr e ↦ elim (below_two y k) [ inl i ↦ ap₂ f e i ∙ c ∙ sym (ap₂ g e i) | inr i ↦ ap₂ f e i ∙ d ∙ sym (ap₂ g e i) ]
]

pub has_members : (b k : ℕ) → k < 128 → has (members b) k ≡ is_set b k
has_members b k below = has_of 128 (is_set b) k below

pub contains_bits : (b n : ℕ) → n < 128 → (bit_and (b / 2 ^ n) 1 == 1) ≡ has (members b) n
contains_bits b n below = ap (λ z. z == 1) (shr_and_one b n) ∙ sym (has_members b n below)

-- two numbers are equal where they stand for equal lists
pub equal_bits : (a b : ℕ) → a < 2 ^ 128 → b < 2 ^ 128 → ((a == b) ≡ true) ↔ (members a ≡ members b)
equal_bits a b h k = (
  λ e. ap members (eqb-true a b e),
  λ e. eq-eqb a b (sym (same_number a 128 h) ∙ ap number e ∙ same_number b 128 k),
)

-- ---- what an operation on bits does to the list

pub empty_bits : members 0 ≡ []
empty_bits = none_of 128 (is_set 0) (λ k. ap (λ z. z == 1) (bit_at-zero k))

pub with_bits : (b n : ℕ) → n < 128 → members (bit_or b (1 * 2 ^ n % 2 ^ 128)) ≡ numbers_below 128 (λ m. (m == n) || has (members b) m)
with_bits b n within = numbers_agree 128 (is_set (bit_or b (1 * 2 ^ n % 2 ^ 128))) (λ m. (m == n) || has (members b) m) (λ m below. elim (cases_eq m n) [
  | inl e ↦ ap (λ z. bit_at (bit_or b (1 * 2 ^ n % 2 ^ 128)) z == 1) e ∙ ap (λ z. z == 1) (bit_at_set_same w128 b n within) ∙ sym (ap (λ t. t || has (members b) m) (eq-eqb m n e))
  | inr other ↦ ap (λ z. z == 1) (bit_at_set_other w128 b n within m other) ∙ sym (has_members b m below) ∙ sym (ap (λ t. t || has (members b) m) (ne_eqb m n other))
])

-- where each bit is made of those of two numbers, so is each member of theirs
pub by_bits : (made : ℕ → ℕ → ℕ) (says : Bool → Bool → Bool)
    → (made 0 0 == 1) ≡ says false false → (made 0 1 == 1) ≡ says false true → (made 1 0 == 1) ≡ says true false → (made 1 1 == 1) ≡ says true true
    → (a b c : ℕ) → ((n : ℕ) → n < 128 → bit_at c n ≡ made (bit_at a n) (bit_at b n)) → members c ≡ numbers_below 128 (λ n. says (has (members a) n) (has (members b) n))
by_bits made says e f g h a b c are = numbers_agree 128 (is_set c) (λ n. says (has (members a) n) (has (members b) n)) (λ n below.
    ap (λ z. z == 1) (are n below)
    ∙ at_bits (λ x y. made x y == 1) (λ x y. says (x == 1) (y == 1)) e f g h (bit_at a n) (bit_at b n) (bit_at-lt a n) (bit_at-lt b n)
    ∙ sym (ap₂ says (has_members a n below) (has_members b n below)))

pub meet_bits : (a b : ℕ) → members (bit_and a b) ≡ numbers_below 128 (λ n. has (members a) n && has (members b) n)
meet_bits a b = by_bits min (λ x y. x && y) refl refl refl refl a b (bit_and a b) (λ n _. bit_at_and a b n)

-- ---- the first and the last bit that is set

pub lowest_bit : (b : ℕ) → 0 < b → b < 2 ^ 128 → (trailing_zeros w128 b < 128) × (is_set b (trailing_zeros w128 b) ≡ true) × ((n : ℕ) → n < trailing_zeros w128 b → is_set b n ≡ false)
lowest_bit b some within = let is = bit_at-trailing_zeros w128 b some within in (is.0, ap (λ z. z == 1) is.1, λ n less. ap (λ z. z == 1) (is.2 n less))

pub highest_bit : (b : ℕ) → 0 < b → b < 2 ^ 128 → (127 - leading_zeros w128 b < 128) × (is_set b (127 - leading_zeros w128 b) ≡ true) × ((n : ℕ) → 127 - leading_zeros w128 b < n → is_set b n ≡ false)
highest_bit b some within =
    let top = leading_top 128 b some within in
    let at : 127 - leading_zeros w128 b ≡ top.0 = (let e = top.1 in omega (arith, e)) in
    (let e = top.1 in omega (arith, e), rw at (ap (λ q. q % 2 == 1) (top_bit b top.0 top.2 top.3)), λ n more. ap (λ z. z == 1) (bit_at_above b (suc top.0) n top.3 (omega (arith, more, at))))

pub and_within : (a b : ℕ) → a < 2 ^ 128 → bit_and a b < 2 ^ 128
and_within a b within = omega (arith, and_le_l a b, within)

-- the bit of a number that stands there is set
standing : (b k : ℕ) → has (members b) k ≡ true → is_set b k ≡ true
standing b k stands = elim (cases_lt k 128) [
  | inl below ↦ sym (has_members b k below) ∙ stands
  | inr above ↦ apart (has (members b) k) stands (has_beyond 128 (is_set b) k above)
]

pub greatest_bit : (b : ℕ) → 0 < b → b < 2 ^ 128 → (has (members b) (127 - leading_zeros w128 b) ≡ true) × ((n : ℕ) → has (members b) n ≡ true → n ≤ 127 - leading_zeros w128 b) × (127 - leading_zeros w128 b < 128)
greatest_bit b some within =
    let is = highest_bit b some within in
    let most = 127 - leading_zeros w128 b in
    (has_members b most is.0 ∙ is.1, λ n stands. elim (cases_lt most n) [ inl more ↦ apart (is_set b n) (standing b n stands) (is.2 n more) | inr below ↦ below ], is.0)

pub least_bit : (b : ℕ) → 0 < b → b < 2 ^ 128 → (has (members b) (trailing_zeros w128 b) ≡ true) × ((n : ℕ) → has (members b) n ≡ true → trailing_zeros w128 b ≤ n) × (trailing_zeros w128 b < 128)
least_bit b some within =
    let is = lowest_bit b some within in
    let least = trailing_zeros w128 b in
    (has_members b least is.0 ∙ is.1, λ n stands. elim (cases_lt n least) [ inl less ↦ apart (is_set b n) (standing b n stands) (is.2 n less) | inr above ↦ above ], is.0)

-- one number alone
alone : (n bound : ℕ) → n < bound → numbers_below bound (λ m. (m == n) || false) ≡ n ∷ []
alone n bound within =
    first_of bound (λ m. (m == n) || false) n within (ap (λ t. t || false) (eq-eqb n n refl)) (λ m less. ap (λ t. t || false) (ne_eqb m n (λ e. omega (arith, e, less))))
    ∙ ap (λ s. n ∷ s) (none_of bound (but (λ m. (m == n) || false) n) (λ m. neither (m == n)))
  where
    neither : (t : Bool) → (not t && (t || false)) ≡ false
    neither true = refl
    neither false = refl

pub one_bits : (n : ℕ) → n < 128 → members (1 * 2 ^ n % 2 ^ 128) ≡ n ∷ []
one_bits n within = ap members (sym (or_zero_l (1 * 2 ^ n % 2 ^ 128))) ∙ with_bits 0 n within ∙ ap (λ s. numbers_below 128 (λ m. (m == n) || has s m)) empty_bits ∙ alone n 128 within

pub one_within : (n : ℕ) → n < 128 → (0 < 1 * 2 ^ n % 2 ^ 128) × (1 * 2 ^ n % 2 ^ 128 < 2 ^ 128)
one_within n within = (rw (one_shl n 128 within) (pow_pos n), omega arith)

pub with_within : (b n : ℕ) → n < 128 → 0 < b → b < 2 ^ 128 → (0 < bit_or b (1 * 2 ^ n % 2 ^ 128)) × (bit_or b (1 * 2 ^ n % 2 ^ 128) < 2 ^ 128)
with_within b n within some below = (omega (arith, le_or_l b (1 * 2 ^ n % 2 ^ 128), some), or_lt 128 b (1 * 2 ^ n % 2 ^ 128) below (omega arith))

pub ones_below : (bound : ℕ) → numbers_below bound (is_set (2 ^ bound - 2 ^ 0)) ≡ numbers_below bound (λ _. true)
ones_below bound = numbers_agree bound (is_set (2 ^ bound - 2 ^ 0)) (λ _. true) (λ k below. ap (λ z. z == 1) (bit_at_mask_inside 0 bound k (omega arith) below))

pub none_beyond : (b n : ℕ) → 128 ≤ n → false ≡ has (members b) n
none_beyond b n above = sym (has_beyond 128 (is_set b) n above)

powers_rise : (low high : ℕ) → low ≤ high → high < 128 → 1 * 2 ^ low % 2 ^ 128 ≤ 1 * 2 ^ high % 2 ^ 128
powers_rise low high order within = rw (one_shl low 128 (omega (arith, order, within)), one_shl high 128 within) (pow_mono order)

pub between_rises : (a b : ℕ) → a < 128 → b < 128 → 1 * 2 ^ min a b % 2 ^ 128 ≤ 1 * 2 ^ max a b % 2 ^ 128
between_rises a b h k = powers_rise (min a b) (max a b) (omega arith) (omega (arith, h, k))

one_of_one : count_ones 1 ≡ 1
one_of_one = elim (cases_eq (count_ones 1) 0) [ inl e ↦ absurd (let z = zero_from_ones 1 e in omega (arith, z)) | inr other ↦ omega (arith, other, ones_le_self 1) ]

counted_from : (b m a : ℕ) → b / 2 ^ a < 2 ^ m → count_ones (b / 2 ^ a) ≡ length (filter (is_set b) (range_with_len a m))
counted_from b zero a within = ap count_ones (zero_below_one (b / 2 ^ a) within) ∙ omega (arith, ones_le_self 0)
counted_from b (suc m) a within =
    let e = halves b a in
    let q = b / 2 ^ (a + 1) in
    let rest : count_ones q ≡ length (filter (is_set b) (range_with_len (a + 1) m)) = counted_from b m (a + 1) (omega (arith, e, within, pow-suc 2 m)) in
    let both : count_ones (b / 2 ^ a) ≡ count_ones q + count_ones (bit_at b a) = ap count_ones e ∙ ones_cat 1 q (bit_at b a) (bit_at-lt b a) in
    cond_both (is_set b a) (a ∷ filter (is_set b) (range_with_len (a + 1) m)) (filter (is_set b) (range_with_len (a + 1) m)) (λ s. count_ones (b / 2 ^ a) ≡ length s)
    (λ t. let one = ap count_ones (eqb-true (bit_at b a) 1 t) ∙ one_of_one in omega (arith, both, rest, one))
    (λ t. let none = ap count_ones (unset (bit_at b a) (bit_at-lt b a) t) in omega (arith, both, rest, none, ones_le_self 0))

counted_below : (b bound : ℕ) → b < 2 ^ bound → count_ones b ≡ length (numbers_below bound (is_set b))
unfolding numbers_below
counted_below b bound within = ap count_ones (sym (whole b)) ∙ counted_from b bound 0 (rw (whole b) within)
  where
    whole : (q : ℕ) → q / 2 ^ 0 ≡ q
    whole q = omega arith

pub counted : (b : ℕ) → b < 2 ^ 128 → count_ones b ≡ length (members b)
counted b within = counted_below b 128 within

pub same_bits : (a b : ℕ) → a < 2 ^ 128 → b < 2 ^ 128 → (a == b) ≡ pointwise nat_eq (members a) (members b)
same_bits a b h k = same_from_decides (a == b) (pointwise nat_eq (members a) (members b)) (equal_bits a b h k) (bytes_eq-Decides (members a) (members b))

-- What an operation on bits does to the numbers that they stand for.
use Rattle.std.proofs.Common.{◌≡◌, ℕ, ◌<◌, ◌-◌, ◌^◌, ap, ap₂, sym, ◌∙◌, arith, bit_and}
use Rattle.std.specs.Prelude.{true, ◌||◌, ◌==◌, filter, nat_lt}
use Rattle.std.specs.Int.{w128, trailing_zeros}
use Rattle.std.proofs.Math.Bool.{and-true}
use Rattle.std.proofs.lemmas.Bool.{ne_eqb}
use Rattle.xdg_domain.specs.Cards.{cards, IsCards, with_card, common}
use Rattle.xdg_facts.specs.Rises.{has}
use Rattle.xdg_facts.specs.BitSets.{is_set, members}
use Rattle.xdg_facts.proofs.Truths.{apart}
use Rattle.xdg_facts.proofs.BitMembers.{meet_bits, least_bit, ones_below}
use Rattle.xdg_facts.proofs.Rising.{has_beyond, has_exact, has_tested, numbers_whole, rises_of, numbers_twice}

-- ---- the least and the greatest

-- ---- what every set is

pub members_are_cards : (b : ℕ) → 0 < b → b < 2 ^ 128 → IsCards (members b)
members_are_cards b some within = record {
  rises = rises_of 128 (is_set b);
  whole = numbers_whole 128 (is_set b);
  some = λ e. apart (has (members b) (trailing_zeros w128 b)) (least_bit b some within).0 (ap (λ s. has s (trailing_zeros w128 b)) e);
}

-- ---- all, one, and one more

pub all_bits : members (2 ^ 128 - 1) ≡ cards (λ _. true)
all_bits = ones_below 128

pub all_has : (n : ℕ) → has (cards (λ _. true)) n ≡ nat_lt n 128
all_has n = has_tested 128 (λ _. true) n ∙ and-true (nat_lt n 128)

pub with_has : (b n : ℕ) → n < 128 → (m : ℕ) → has (with_card (members b) n) m ≡ ((m == n) || has (members b) m)
with_has b n within = has_exact 128 (λ m. (m == n) || has (members b) m) (λ m above. ap₂ (λ x y. x || y) (ne_eqb m n (λ e. omega (arith, e, above, within))) (has_beyond 128 (is_set b) m above))

-- ---- the numbers of both

pub common_bits : (a b : ℕ) → members (bit_and a b) ≡ common (members a) (members b)
common_bits a b = meet_bits a b ∙ sym (ap (filter (has (members b))) (numbers_whole 128 (is_set a)) ∙ numbers_twice 128 (has (members a)) (has (members b)))

-- ---- some bit is set

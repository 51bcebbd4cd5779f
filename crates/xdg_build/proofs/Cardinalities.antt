-- The numbers of a cardinality, one by one.
use Rattle.std.proofs.Common.{◌≡◌, ℕ, ◌+◌, ◌-◌, ◌<◌, ◌≤◌, true, false, cond, List, [], ◌∷◌, ◌++◌, filter, refl, sym, inl, inr, ap, ◌∙◌, subst, arith}
use Rattle.std.specs.List.{range_with_len}
use Rattle.std.specs.List.Sorted.{IsStrictlyIncreasing}
use Rattle.std.proofs.lemmas.Bool.{cases_lt, false_from_ne_true}
use Rattle.std.proofs.lemmas.List.{append_assoc, append-nil}
use Rattle.xdg_domain.specs.Cards.{IsCards}
use Rattle.xdg_facts.proofs.Rising.{has_between, has_not_after, has_not_before, rises_in}
use Rattle.xdg_facts.specs.Rises.{has}
use Rattle.xdg_facts.proofs.Merging.{increasing_of_rises, from_rises, increasing_same, numbers_increase}
use Rattle.xdg_facts.proofs.Members.{members_from, from_next, none_from}

pub passed : (end low : ℕ) (s now whole : List ℕ) → low < end → has s low ≡ false → now ++ members_from end s low ≡ whole → now ++ members_from end s (low + 1) ≡ whole
passed end low s now whole within none so_far =
    ap (λ l. now ++ l) (sym (from_next end s low within ∙ ap (λ b. cond b (low ∷ members_from end s (low + 1)) (members_from end s (low + 1))) none)) ∙ so_far

pub pushed : (end low : ℕ) (s now after whole : List ℕ) → low < end → has s low ≡ true → after ≡ now ++ low ∷ [] → now ++ members_from end s low ≡ whole → after ++ members_from end s (low + 1) ≡ whole
pushed end low s now after whole within is grown so_far =
    ap (λ l. l ++ members_from end s (low + 1)) grown ∙ append_assoc now (low ∷ []) (members_from end s (low + 1))
    ∙ ap (λ l. now ++ l) (sym (from_next end s low within ∙ ap (λ b. cond b (low ∷ members_from end s (low + 1)) (members_from end s (low + 1))) is)) ∙ so_far

-- ---- all of them

between_rises : (low end : ℕ) (s : List ℕ) → IsStrictlyIncreasing (members_from end s low)
unfolding members_from
between_rises low end s =
    let size : ℕ = end - low in
    increasing_of_rises low (filter (has s) (range_with_len low size)) (from_rises low (low + size) (filter (has s) (range_with_len low size)) (rises_in (has s) low size))

pub increases : (s : List ℕ) → IsCards s → IsStrictlyIncreasing s
increases s is = subst IsStrictlyIncreasing (sym is.whole) (numbers_increase 128 (has s))

whole : (s : List ℕ) (least greatest : ℕ) → IsCards s → least ≤ greatest → ((n : ℕ) → has s n ≡ true → least ≤ n) → ((n : ℕ) → has s n ≡ true → n ≤ greatest) → members_from (greatest + 1) s least ≡ s
unfolding members_from
whole s least greatest is order low high =
    let size : ℕ = greatest + 1 - least in
    increasing_same (filter (has s) (range_with_len least size)) s (between_rises least (greatest + 1) s) (increases s is) (λ n. elim (cases_lt n least) [
      | inl before ↦ has_not_before (has s) least size n before ∙ sym (false_from_ne_true (has s n) (λ t. omega (arith, before, low n t)))
      | inr after ↦ elim (cases_lt greatest n) [
        | inl past ↦ has_not_after (has s) least size n (omega (arith, past, order)) ∙ sym (false_from_ne_true (has s n) (λ t. omega (arith, past, high n t)))
        | inr within ↦ has_between (has s) least size n after (omega (arith, within, order))
      ]
    ])

-- where all numbers were passed, those that were taken are those of the cardinality
all_taken : (s now : List ℕ) (least greatest end low : ℕ) → end ≡ greatest + 1 → IsCards s → has s least ≡ true → ((n : ℕ) → has s n ≡ true → least ≤ n) → ((n : ℕ) → has s n ≡ true → n ≤ greatest)
    → end ≤ low → now ++ members_from end s low ≡ members_from end s least → now ≡ s
all_taken s now least greatest end low e is some first last over so_far =
    sym (append-nil now) ∙ ap (λ l. now ++ l) (sym (none_from end low s over)) ∙ so_far ∙ ap (λ k. members_from k s least) e
    ∙ whole s least greatest is (last least some) first last

-- what was taken at the end
pub taken_at_end : (s now : List ℕ) (least greatest low : ℕ) → has s least ≡ true → ((n : ℕ) → has s n ≡ true → least ≤ n) → ((n : ℕ) → has s n ≡ true → n ≤ greatest)
    → greatest + 1 ≤ low → (least < low → IsCards s) → now ++ members_from (greatest + 1) s low ≡ members_from (greatest + 1) s least → (now ≡ s) × IsStrictlyIncreasing now
taken_at_end s now least greatest low some first last over cards so_far =
    let order : least ≤ greatest = last least some in
    let is : IsCards s = cards (omega (arith, order, over)) in
    let all : now ≡ s = all_taken s now least greatest (greatest + 1) low refl is some first last over so_far in
    (all, subst IsStrictlyIncreasing (sym all) (increases s is))

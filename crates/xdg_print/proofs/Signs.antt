-- Cardinalities that a sign stands for, and the numbers of the others.
use Rattle.std.proofs.Common.{◌≡◌, ℕ, ◌<◌, ◌≤◌, ◌+◌, List, [], ◌∷◌, Bool, true, false, nat_lt, map, refl, sym, ap, ◌∙◌, true≢false, arith}
use Rattle.std.specs.Prelude.{◌↔◌, ◌||◌, ◌==◌}
use Rattle.std.proofs.lemmas.Bool.Decides.{nat_tests}
use Rattle.xdg_ast.specs.Words.{number}
use Rattle.xdg_domain.specs.Cards.{cards, with_card, IsCards}
use Rattle.xdg_print.specs.declared.printer.Printer.{Printer}
use Rattle.xdg_print.specs.Printed.{put}
use Rattle.xdg_packed.proofs.Writing.{all_from}
use Rattle.xdg_facts.specs.Rises.{has, numbers_below}
use Rattle.xdg_facts.proofs.Rising.{numbers_agree, has_of}
use Rattle.xdg_facts.proofs.Members.{members_from, next_member, none_from}

pub zero_and_one : with_card (0 ∷ []) 1 ≡ 0 ∷ 1 ∷ []
unfolding numbers_below
zero_and_one = refl

-- ---- the numbers from 1 on

all_with_zero : (n : ℕ) → ((n == 0) || nat_lt 0 n) ≡ true
all_with_zero n = grind (arith, nat_tests)

-- with 0 all numbers, and without it those from 1 on
with_zero : (bound : ℕ) (s : List ℕ) → s ≡ numbers_below bound (λ n. nat_lt 0 n) → numbers_below bound (λ n. (n == 0) || has s n) ≡ numbers_below bound (λ _. true)
with_zero bound s is = numbers_agree bound (λ n. (n == 0) || has s n) (λ _. true) (λ n below. ap (λ b. (n == 0) || b) (ap (λ l. has l n) is ∙ has_of bound (λ m. nat_lt 0 m) n below) ∙ all_with_zero n)

without_zero : (n : ℕ) (b : Bool) → (n ≡ 0 → b ≡ false) → ((n == 0) || b) ≡ true → b ≡ nat_lt 0 n
without_zero n b none all = grind (arith, nat_tests, all, none)

from_one : (bound : ℕ) (s : List ℕ) → s ≡ numbers_below bound (has s) → has s 0 ≡ false → numbers_below bound (λ n. (n == 0) || has s n) ≡ numbers_below bound (λ _. true) → s ≡ numbers_below bound (λ n. nat_lt 0 n)
from_one bound s whole none all =
    whole ∙ numbers_agree bound (has s) (λ n. nat_lt 0 n) (λ n below. without_zero n (has s n) (λ is. ap (has s) is ∙ none)
    (sym (has_of bound (λ m. (m == 0) || has s m) n below) ∙ ap (λ l. has l n) all ∙ has_of bound (λ _. true) n below))

pub zero_allowed : (s : List ℕ) → has s 0 ≡ true → (false ≡ true) ↔ (s ≡ cards (λ n. nat_lt 0 n))
zero_allowed s has_it = ((λ e. absurd (true≢false (sym e))), (λ e. absurd (true≢false (sym has_it ∙ ap (λ l. has l 0) e ∙ has_of 128 (λ n. nat_lt 0 n) 0 (omega arith)))))

pub zero_refused : (s with_it : List ℕ) (b : Bool) → IsCards s → has s 0 ≡ false → with_it ≡ with_card s 0 → (b ≡ true) ↔ (with_it ≡ cards (λ _. true)) → (b ≡ true) ↔ (s ≡ cards (λ n. nat_lt 0 n))
zero_refused s with_it b is none with exact = (
  λ e. from_one 128 s is.whole none (sym with ∙ exact.0 e),
  λ e. exact.1 (with ∙ with_zero 128 s e),
)

-- ---- numbers

pub card_put : (bound : ℕ) (s : List ℕ) (n m : ℕ) (p q end : Printer) → n < bound → has s n ≡ true → m ≡ n → q ≡ put (number m ∷ []) p → put (map number (members_from bound s n)) p ≡ end → put (map number (members_from bound s (n + 1))) q ≡ end
card_put bound s n m p q end within some same added before =
    ap (put (map number (members_from bound s (n + 1)))) (added ∙ ap (λ k. put (number k ∷ []) p) same) ∙ next_member (λ l. put (map number l) p ≡ end) bound s n true within some before

pub cards_end : (s : List ℕ) (n : ℕ) (p start : Printer) → 128 ≤ n → IsCards s → put (map number (members_from 128 s n)) p ≡ put (map number (members_from 128 s 0)) start → p ≡ put (map number s) start
cards_end s n p start over is before =
    ap (λ l. put (map number l) p) (sym (none_from 128 n s over)) ∙ before ∙ ap (λ l. put (map number l) start) (sym (all_from s is))

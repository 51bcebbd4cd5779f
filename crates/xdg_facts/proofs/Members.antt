-- The members of a set, from a number on.
use Rattle.std.proofs.Common.{List, filter, ℕ, ◌-◌, arith, suc, cond, ap, ◌≡◌, ◌+◌, ◌<◌, ◌∷◌, Bool, subst, ◌∙◌, true, refl, false, ◌≤◌, [], zero}
use Rattle.std.specs.List.{range_with_len}
use Rattle.xdg_facts.proofs.Truths.{agree_in, none_in, never_true}
use Rattle.xdg_facts.specs.Rises.{has}

-- the numbers that are allowed, from one on and below a bound
unfoldable pub members_from : ℕ → List ℕ → ℕ → List ℕ
members_from bound s n = filter (has s) (range_with_len n (bound - n))

pub from_next : (bound : ℕ) (s : List ℕ) (n : ℕ) → n < bound → members_from bound s n ≡ cond (has s n) (n ∷ members_from bound s (n + 1)) (members_from bound s (n + 1))
unfolding members_from
from_next bound s n within = ap (λ size. filter (has s) (range_with_len n size)) (let size : bound - n ≡ suc (bound - (n + 1)) = omega (arith, within) in size)

-- what holds of the numbers from one on holds of that number, if it is allowed, and of those from the next on
pub next_member : (P : List ℕ → Type 0) (bound : ℕ) (s : List ℕ) (n : ℕ) (allowed : Bool) → n < bound → has s n ≡ allowed → P (members_from bound s n) → P (cond allowed (n ∷ members_from bound s (n + 1)) (members_from bound s (n + 1)))
next_member P bound s n allowed within is h = subst P (from_next bound s n within ∙ ap (λ b. cond b (n ∷ members_from bound s (n + 1)) (members_from bound s (n + 1))) is) h

-- no number stands behind the greatest
pub none_behind : (bound last n : ℕ) (s : List ℕ) → last < n → ((k : ℕ) → has s k ≡ true → k ≤ last) → members_from bound s n ≡ []
unfolding members_from
none_behind bound last n s over greatest =
    agree_in (has s) (λ _. false) n (bound - n) (λ k above _. never_true (has s k) (λ is. let early = greatest k is in omega (arith, above, over, early)))
    ∙ none_in (λ _. false) n (bound - n) (λ _. refl)

-- no number stands before the least
pub before_least : (bound : ℕ) (s : List ℕ) (n : ℕ) → n ≤ bound → ((k : ℕ) → has s k ≡ true → n ≤ k) → members_from bound s n ≡ members_from bound s 0
before_least bound s zero within least = refl
before_least bound s (suc n) within least =
    let none : has s n ≡ false = never_true (has s n) (λ is. let late = least n is in omega (arith, late)) in
    let next : suc n ≡ n + 1 = omega arith in
    ap (members_from bound s) next
    ∙ next_member (λ l. l ≡ members_from bound s n) bound s n false (omega (arith, within)) none refl
    ∙ before_least bound s n (omega (arith, within)) (λ k is. let late = least k is in omega (arith, late))

pub none_from : (bound n : ℕ) (s : List ℕ) → bound ≤ n → members_from bound s n ≡ []
unfolding members_from
none_from bound n s over =
    let size : bound - n ≡ 0 = omega (arith, over) in
    ap (λ k. filter (has s) (range_with_len n k)) size

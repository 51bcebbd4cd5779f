-- Rising lists of the numbers below a bound that pass a test.
use Rattle.std.proofs.Common.{◌≡◌, ℕ, ◌<◌, ◌≤◌, ◌+◌, ◌⊎◌, zero, suc, List, [], ◌∷◌, ◌++◌, length, refl, ap, sym, ◌∙◌, arith, inl, inr, subst}
use Rattle.std.specs.Prelude.{Bool, true, false, cond, not, ◌&&◌, ◌||◌, ◌==◌, filter, nat_lt, All}
use Rattle.std.specs.List.{range_with_len, Contains}
use Rattle.std.proofs.Math.Nat.{zero-add}
use Rattle.std.proofs.lemmas.Bool.{cond_both, cond-true, cond-false, cases_eq, cases_lt, lt-ltb, le-ltb, eq-eqb, eqb-true, false≢true, ne_eqb, or_cases, or_left, or_right}
use Rattle.xdg_facts.proofs.Truths.{none_in, agree_in, apart, either_true, or_here}
use Rattle.xdg_facts.specs.Rises.{has, numbers_below, Rises}
use Rattle.xdg_facts.proofs.Filters.{filter_both}
use Rattle.xdg_facts.proofs.Lists.{all_cons, all_none}

pub numbers_agree : (bound : ℕ) (p q : ℕ → Bool) → ((k : ℕ) → k < bound → p k ≡ q k) → numbers_below bound p ≡ numbers_below bound q
unfolding numbers_below
numbers_agree bound p q same = agree_in p q 0 bound (λ k _ below. same k (omega (arith, below)))

-- ---- what stands in the list

pub no_member : (set : List ℕ) (x : ℕ) → set ≡ [] → has set x ≡ true → ⊥
no_member set x empty h = false≢true (subst (λ s. has s x ≡ true) empty h)

pub head_in : (left rest : List ℕ) (v : ℕ) → left ≡ v ∷ rest → has left v ≡ true
head_in left rest v is = subst (λ s. has s v ≡ true) (sym is) (or_here (v == v) (has rest v) (eq-eqb v v refl))

pub tail_in : (left rest : List ℕ) (v x : ℕ) → left ≡ v ∷ rest → has rest x ≡ true → has left x ≡ true
tail_in left rest v x is h = subst (λ s. has s x ≡ true) (sym is) (either_true (v == x) (has rest x) h)

pub head_or_tail : (left rest : List ℕ) (v x : ℕ) → left ≡ v ∷ rest → has left x ≡ true → (v ≡ x) ⊎ (has rest x ≡ true)
head_or_tail left rest v x is h = elim (or_cases (v == x) (has rest x) (subst (λ s. has s x ≡ true) is h)) [
  | inl same ↦ inl (eqb-true v x same)
  | inr later ↦ inr later
]

-- a list with one number more at its end
pub has_front : (front : List ℕ) (v x : ℕ) → has front x ≡ true → has (front ++ v ∷ []) x ≡ true
has_front [] v x h = absurd (false≢true h)
has_front (m ∷ front) v x h = elim (or_cases (m == x) (has front x) h) [
  | inl here ↦ or_here (m == x) (has (front ++ v ∷ []) x) here
  | inr there ↦ either_true (m == x) (has (front ++ v ∷ []) x) (has_front front v x there)
]

pub has_next : (front rest : List ℕ) (v : ℕ) → has (front ++ v ∷ rest) v ≡ true
has_next [] rest v = or_here (v == v) (has rest v) (eq-eqb v v refl)
has_next (m ∷ front) rest v = either_true (m == v) (has (front ++ v ∷ rest) v) (has_next front rest v)

pub has_cases : (front : List ℕ) (v x : ℕ) → has (front ++ v ∷ []) x ≡ true → (has front x ≡ true) ⊎ (x ≡ v)
has_cases [] v x h = elim (or_cases (v == x) false h) [ inl here ↦ inr (sym (eqb-true v x here)) | inr none ↦ absurd (false≢true none) ]
has_cases (m ∷ front) v x h = elim (or_cases (m == x) (has (front ++ v ∷ []) x) h) [
  | inl here ↦ inl (or_here (m == x) (has front x) here)
  | inr there ↦ elim (has_cases front v x there) [ inl before ↦ inl (either_true (m == x) (has front x) before) | inr same ↦ inr same ]
]

pub has_not_before : (p : ℕ → Bool) (a n k : ℕ) → k < a → has (filter p (range_with_len a n)) k ≡ false
has_not_before p a zero k before = refl
has_not_before p a (suc n) k before =
    let rest = has_not_before p (a + 1) n k (omega (arith, before)) in
    cond_both (p a) (a ∷ filter p (range_with_len (a + 1) n)) (filter p (range_with_len (a + 1) n)) (λ s. has s k ≡ false)
    (λ _. ap (λ t. t || has (filter p (range_with_len (a + 1) n)) k) (ne_eqb a k (λ e. omega (arith, e, before))) ∙ rest)
    (λ _. rest)

pub has_not_after : (p : ℕ → Bool) (a n k : ℕ) → a + n ≤ k → has (filter p (range_with_len a n)) k ≡ false
has_not_after p a zero k after = refl
has_not_after p a (suc n) k after =
    let rest = has_not_after p (a + 1) n k (omega (arith, after)) in
    cond_both (p a) (a ∷ filter p (range_with_len (a + 1) n)) (filter p (range_with_len (a + 1) n)) (λ s. has s k ≡ false)
    (λ _. ap (λ t. t || has (filter p (range_with_len (a + 1) n)) k) (ne_eqb a k (λ e. omega (arith, e, after))) ∙ rest)
    (λ _. rest)

pub has_between : (p : ℕ → Bool) (a n k : ℕ) → a ≤ k → k < a + n → has (filter p (range_with_len a n)) k ≡ p k
has_between p a zero k above below = absurd (omega (arith, above, below))
has_between p a (suc n) k above below = elim (cases_eq a k) [
  | inl e ↦ cond_both (p a) (a ∷ filter p (range_with_len (a + 1) n)) (filter p (range_with_len (a + 1) n)) (λ s. has s k ≡ p k)
      (λ t. ap (λ b. b || has (filter p (range_with_len (a + 1) n)) k) (eq-eqb a k e) ∙ sym t ∙ ap p e)
      (λ t. has_not_before p (a + 1) n k (omega (arith, e)) ∙ sym t ∙ ap p e)
  | inr other ↦
      let rest = has_between p (a + 1) n k (omega (arith, above, other)) (omega (arith, below)) in
      cond_both (p a) (a ∷ filter p (range_with_len (a + 1) n)) (filter p (range_with_len (a + 1) n)) (λ s. has s k ≡ p k)
      (λ t. ap (λ b. b || has (filter p (range_with_len (a + 1) n)) k) (ne_eqb a k other) ∙ rest)
      (λ t. rest)
]

pub has_of : (bound : ℕ) (p : ℕ → Bool) (k : ℕ) → k < bound → has (numbers_below bound p) k ≡ p k
unfolding numbers_below
has_of bound p k below = has_between p 0 bound k (omega arith) (omega (arith, below))

pub has_beyond : (bound : ℕ) (p : ℕ → Bool) (k : ℕ) → bound ≤ k → has (numbers_below bound p) k ≡ false
unfolding numbers_below
has_beyond bound p k above = has_not_after p 0 bound k (omega (arith, above))

pub has_tested : (bound : ℕ) (p : ℕ → Bool) (k : ℕ) → has (numbers_below bound p) k ≡ (nat_lt k bound && p k)
has_tested bound p k = elim (cases_lt k bound) [
  | inl below ↦ has_of bound p k below ∙ ap (λ b. b && p k) (sym (lt-ltb k bound below))
  | inr above ↦ has_beyond bound p k above ∙ ap (λ b. b && p k) (sym (le-ltb k bound above))
]

-- the list is that of the numbers that stand in it
pub numbers_whole : (bound : ℕ) (p : ℕ → Bool) → numbers_below bound p ≡ numbers_below bound (has (numbers_below bound p))
numbers_whole bound p = numbers_agree bound p (has (numbers_below bound p)) (λ k below. sym (has_of bound p k below))

-- where nothing passes beyond the bound, what stands there is what passes
pub has_exact : (bound : ℕ) (p : ℕ → Bool) → ((k : ℕ) → bound ≤ k → p k ≡ false) → (k : ℕ) → has (numbers_below bound p) k ≡ p k
has_exact bound p none k = elim (cases_lt k bound) [ inl below ↦ has_of bound p k below | inr above ↦ has_beyond bound p k above ∙ sym (none k above) ]

-- ---- the first and the last

pub none_of : (bound : ℕ) (p : ℕ → Bool) → ((k : ℕ) → p k ≡ false) → numbers_below bound p ≡ []
unfolding numbers_below
none_of bound p none = none_in p 0 bound none

-- the test, but for one number
abbrev pub but : (ℕ → Bool) → ℕ → ℕ → Bool
but p k m = not (m == k) && p m

pub but_other : (p : ℕ → Bool) (k m : ℕ) → (m ≡ k → ⊥) → but p k m ≡ p m
but_other p k m other = ap (λ t. not t && p m) (ne_eqb m k other)

pub but_same : (p : ℕ → Bool) (k m : ℕ) → m ≡ k → but p k m ≡ false
but_same p k m same = ap (λ t. not t && p m) (eq-eqb m k same)

pub first_in : (p : ℕ → Bool) (a n k : ℕ) → a ≤ k → k < a + n → p k ≡ true → ((m : ℕ) → m < k → p m ≡ false) → filter p (range_with_len a n) ≡ k ∷ filter (but p k) (range_with_len a n)
first_in p a zero k above below passes none = absurd (omega (arith, above, below))
first_in p a (suc n) k above below passes none = elim (cases_eq a k) [
  | inl e ↦
      cond-true (p a) (a ∷ filter p (range_with_len (a + 1) n)) (filter p (range_with_len (a + 1) n)) (ap p e ∙ passes)
      ∙ ap (λ z. z ∷ filter p (range_with_len (a + 1) n)) e
      ∙ ap (λ s. k ∷ s) (agree_in p (but p k) (a + 1) n (λ m beyond _. sym (but_other p k m (λ f. omega (arith, e, f, beyond))))
      ∙ sym (cond-false (but p k a) (a ∷ filter (but p k) (range_with_len (a + 1) n)) (filter (but p k) (range_with_len (a + 1) n)) (but_same p k a e)))
  | inr other ↦
      let fails : p a ≡ false = none a (omega (arith, above, other)) in
      cond-false (p a) (a ∷ filter p (range_with_len (a + 1) n)) (filter p (range_with_len (a + 1) n)) fails
      ∙ first_in p (a + 1) n k (omega (arith, above, other)) (omega (arith, below)) passes none
      ∙ ap (λ s. k ∷ s) (sym (cond-false (but p k a) (a ∷ filter (but p k) (range_with_len (a + 1) n)) (filter (but p k) (range_with_len (a + 1) n)) (but_other p k a other ∙ fails)))
]

pub first_of : (bound : ℕ) (p : ℕ → Bool) (k : ℕ) → k < bound → p k ≡ true → ((m : ℕ) → m < k → p m ≡ false) → numbers_below bound p ≡ k ∷ numbers_below bound (but p k)
unfolding numbers_below
first_of bound p k below passes none = first_in p 0 bound k (omega arith) (omega (arith, below)) passes none

pub last_in : (p : ℕ → Bool) (a n k : ℕ) → a ≤ k → k < a + n → p k ≡ true → ((m : ℕ) → k < m → p m ≡ false) → filter p (range_with_len a n) ≡ filter (but p k) (range_with_len a n) ++ k ∷ []
last_in p a zero k above below passes none = absurd (omega (arith, above, below))
last_in p a (suc n) k above below passes none = elim (cases_eq a k) [
  | inl e ↦
      cond-true (p a) (a ∷ filter p (range_with_len (a + 1) n)) (filter p (range_with_len (a + 1) n)) (ap p e ∙ passes)
      ∙ ap (λ z. z ∷ filter p (range_with_len (a + 1) n)) e
      ∙ ap (λ s. k ∷ s) (agree_in p (λ _. false) (a + 1) n (λ m beyond _. none m (omega (arith, e, beyond))) ∙ none_in (λ _. false) (a + 1) n (λ _. refl))
      ∙ ap (λ s. s ++ k ∷ []) (sym (
      cond-false (but p k a) (a ∷ filter (but p k) (range_with_len (a + 1) n)) (filter (but p k) (range_with_len (a + 1) n)) (but_same p k a e)
      ∙ agree_in (but p k) (λ _. false) (a + 1) n (λ m beyond _. but_other p k m (λ f. omega (arith, e, f, beyond)) ∙ none m (omega (arith, e, beyond)))
      ∙ none_in (λ _. false) (a + 1) n (λ _. refl)))
  | inr other ↦
      let rest = last_in p (a + 1) n k (omega (arith, above, other)) (omega (arith, below)) passes none in
      let same = but_other p k a other in
      ap (λ s. cond (p a) (a ∷ s) s) rest
      ∙ cond_push (p a) a (filter (but p k) (range_with_len (a + 1) n)) k
      ∙ ap (λ t. cond t (a ∷ filter (but p k) (range_with_len (a + 1) n)) (filter (but p k) (range_with_len (a + 1) n)) ++ k ∷ []) (sym same)
]
  where
    cond_push : (t : Bool) (m : ℕ) (s : List ℕ) (k : ℕ) → cond t (m ∷ (s ++ k ∷ [])) (s ++ k ∷ []) ≡ cond t (m ∷ s) s ++ k ∷ []
    cond_push true m s k = refl
    cond_push false m s k = refl

pub last_of : (bound : ℕ) (p : ℕ → Bool) (k : ℕ) → k < bound → p k ≡ true → ((m : ℕ) → k < m → p m ≡ false) → numbers_below bound p ≡ numbers_below bound (but p k) ++ k ∷ []
unfolding numbers_below
last_of bound p k below passes none = last_in p 0 bound k (omega arith) (omega (arith, below)) passes none

-- ---- the list rises

pub rises_sooner : (sooner low bound : ℕ) (s : List ℕ) → sooner ≤ low → Rises low bound s → Rises sooner bound s
rises_sooner sooner low bound [] order r = tt
rises_sooner sooner low bound (n ∷ s) order (a, b, c) = (omega (arith, order, a), b, c)

pub rises_in : (p : ℕ → Bool) (a n : ℕ) → Rises a (a + n) (filter p (range_with_len a n))
rises_in p a zero = tt
rises_in p a (suc n) =
    let e : a + suc n ≡ (a + 1) + n = omega arith in
    let rest : Rises (a + 1) (a + suc n) (filter p (range_with_len (a + 1) n)) = rw e (rises_in p (a + 1) n) in
    cond_both (p a) (a ∷ filter p (range_with_len (a + 1) n)) (filter p (range_with_len (a + 1) n)) (λ s. Rises a (a + suc n) s)
    (λ _. (omega arith, omega arith, rest))
    (λ _. rises_sooner a (a + 1) (a + suc n) (filter p (range_with_len (a + 1) n)) (omega arith) rest)

pub rises_of : (bound : ℕ) (p : ℕ → Bool) → Rises 0 bound (numbers_below bound p)
unfolding numbers_below
rises_of bound p = subst (λ b. Rises 0 b (filter p (range_with_len 0 bound))) (zero-add bound) (rises_in p 0 bound)

pub few_in : (p : ℕ → Bool) (a n : ℕ) → length (filter p (range_with_len a n)) ≤ n
few_in p a zero = omega arith
few_in p a (suc n) =
    let rest = few_in p (a + 1) n in
    cond_both (p a) (a ∷ filter p (range_with_len (a + 1) n)) (filter p (range_with_len (a + 1) n)) (λ s. length s ≤ suc n) (λ _. omega (arith, rest)) (λ _. omega (arith, rest))

pub few_of : (bound : ℕ) (p : ℕ → Bool) → length (numbers_below bound p) ≤ bound
unfolding numbers_below
few_of bound p = few_in p 0 bound

pub contains_of_has : (s : List ℕ) (n : ℕ) → has s n ≡ true → Contains s n
contains_of_has [] n stands = apart false stands refl
contains_of_has (m ∷ s) n stands = elim (cases_eq m n) [
  | inl e ↦ (0, omega arith, e)
  | inr other ↦
      let c = contains_of_has s n (sym (ap (λ t. t || has s n) (ne_eqb m n other)) ∙ stands) in
      (suc c.0, omega (arith, c.1), c.2)
]

pub contains_has : (ns : List ℕ) (n : ℕ) → Contains ns n → has ns n ≡ true
contains_has [] n is = (let within : is.0 < 0 = is.1 in absurd (omega (arith, within)))
contains_has (m ∷ ns) n (zero, within, e) = or_left (m == n) (has ns n) (eq-eqb m n e)
contains_has (m ∷ ns) n (suc i, within, e) = or_right (m == n) (has ns n) (contains_has ns n (i, omega (arith, within), e))

pub rises_small : (low bound most : ℕ) (ns : List ℕ) → bound ≤ most + 1 → Rises low bound ns → All (λ number. number ≤ most) ns
rises_small low bound most [] same h = all_none (λ number. number ≤ most)
rises_small low bound most (n ∷ ns) same (a, b, c) = all_cons (λ number. number ≤ most) n ns (omega (arith, b, same)) (rises_small (n + 1) bound most ns same c)

pub numbers_twice : (bound : ℕ) (p q : ℕ → Bool) → filter q (numbers_below bound p) ≡ numbers_below bound (λ n. p n && q n)
unfolding numbers_below
numbers_twice bound p q = filter_both q p _

-- Two filters of one list, of which the first keeps less.
use Rattle.std.proofs.Common.{◌≡◌, ℕ, subst, ◌+◌, ◌≤◌, ◌⊎◌, inl, inr, Bool, true, false, ◌&&◌, cond, List, [], ◌∷◌, length, refl, sym, ap, ◌∙◌, arith}
use Rattle.std.specs.Prelude.{◌<◌, filter, Contains, count_by, slice_index_or}
use Rattle.std.proofs.lemmas.Bool.{and_parts, and_from, cases_lt, false≢true, false_from_ne_true}
use Rattle.std.proofs.lemmas.List.{get_or_default}
use Rattle.std.specs.List.{sum_by}
use Rattle.std.proofs.lemmas.List.Sums.{length-filter, sum_by-cons}
use Rattle.std.proofs.lemmas.List.Elements.{All-weaker, All-contains_itself}
use Rattle.xdg_facts.proofs.Contained.{contains_head, contains_cases, contains_none, contains_filter}
use Rattle.xdg_facts.proofs.Filters.{filter_both, count_of_filter, filter_alike, filter_contained}
use Rattle.xdg_facts.proofs.Lists.{contains_more}

-- of the elements of a list, what passes the first test passes the second
abbrev pub Less : {X : Type 0} → (X → Bool) → (X → Bool) → List X → Type 0
Less {X} p q xs = (x : X) → Contains xs x → p x ≡ true → q x ≡ true

less_rest : {X : Type 0} (p q : X → Bool) (x : X) (xs : List X) → Less p q (x ∷ xs) → Less p q xs
less_rest p q x xs less y c = less y (contains_more x xs y c)

-- sums over what the filters keep
module _ {X : Type 0} (f : X → ℕ) where
  more_put : (extra : ℕ) (b c : Bool) (x : X) (ys zs : List X) → (b ≡ true → c ≡ true) → sum_by f ys + extra ≤ sum_by f zs → sum_by f (cond b (x ∷ ys) ys) + extra ≤ sum_by f (cond c (x ∷ zs) zs)
  more_put extra true true x ys zs more fewer = omega (arith, sum_by-cons f x ys, sum_by-cons f x zs, fewer)
  more_put extra true false x ys zs more fewer = absurd (false≢true (more refl))
  more_put extra false true x ys zs more fewer = omega (arith, sum_by-cons f x zs, fewer)
  more_put extra false false x ys zs more fewer = fewer

  pub less_sum : (p q : X → Bool) (xs : List X) → Less p q xs → sum_by f (filter p xs) ≤ sum_by f (filter q xs)
  less_sum p q [] less = omega arith
  less_sum p q (x ∷ xs) less =
      let rest = less_sum p q xs (less_rest p q x xs less) in
      let all = more_put 0 (p x) (q x) x (filter p xs) (filter q xs) (less x (contains_head x xs)) (omega (arith, rest)) in
      omega (arith, all)

  -- an element that passes the second test alone is more by what it counts
  pub more_sum : (p q : X → Bool) (xs : List X) → Less p q xs → (z : X) → Contains xs z → p z ≡ false → q z ≡ true → sum_by f (filter p xs) + f z ≤ sum_by f (filter q xs)
  more_sum p q [] less z c fails passes = absurd (contains_none z c)
  more_sum p q (x ∷ xs) less z c fails passes = elim (contains_cases x xs z c) [
    | inl e ↦ subst (λ k. sum_by f (filter p (x ∷ xs)) + f k ≤ sum_by f (filter q (x ∷ xs))) e (rw (ap p e ∙ fails, ap q e ∙ passes) (omega (arith, sum_by-cons f x (filter q xs), less_sum p q xs (less_rest p q x xs less))))
    | inr d ↦ more_put (f z) (p x) (q x) x (filter p xs) (filter q xs) (less x (contains_head x xs)) (more_sum p q xs (less_rest p q x xs less) z d fails passes)
  ]

-- and how many they are
module _ {X : Type 0} where
  abbrev one_each : X → ℕ
  one_each x = 1

  ones : (xs : List X) → sum_by one_each xs ≡ length xs
  ones [] = refl
  ones (x ∷ xs) = (let rest = ones xs in omega (arith, sum_by-cons one_each x xs, rest))

  pub less_length : (p q : X → Bool) (xs : List X) → Less p q xs → length (filter p xs) ≤ length (filter q xs)
  less_length p q xs less = (let sum = less_sum one_each p q xs less in omega (arith, sum, ones (filter p xs), ones (filter q xs)))

  -- an element that passes the second test alone makes one more
  pub strictly_length : (p q : X → Bool) (xs : List X) → Less p q xs → (z : X) → Contains xs z → p z ≡ false → q z ≡ true → length (filter p xs) + 1 ≤ length (filter q xs)
  strictly_length p q xs less z c fails passes = (let sum = more_sum one_each p q xs less z c fails passes in omega (arith, sum, ones (filter p xs), ones (filter q xs)))

pub less_among : {X : Type 0} (p q : X → Bool) (xs : List X) → Less p q xs → (x : X) → Contains (filter p xs) x → Contains (filter q xs) x
less_among p q xs less x c = (let both = filter_contained p xs x c in contains_filter q xs x (less x both.0 both.1) both.0)

less_and : {X : Type 0} (p q r : X → Bool) (xs : List X) → Less p q xs → Less (λ x. p x && r x) (λ x. q x && r x) xs
less_and p q r xs less x c both = (let parts = and_parts (p x) (r x) both in and_from (q x) (r x) (less x c parts.0) parts.1)

-- so many of what the filters keep pass another test
pub less_count : {X : Type 0} (p q r : X → Bool) (xs : List X) → Less p q xs → count_by r (filter p xs) ≤ count_by r (filter q xs)
less_count p q r xs less =
    let few = count_of_filter r p xs in
    let many = count_of_filter r q xs in
    let more = less_length (λ x. p x && r x) (λ x. q x && r x) xs (less_and p q r xs less) in
    omega (arith, few, many, more)

-- an element that the second filter keeps alone makes one more
pub strictly_count : {X : Type 0} (p q r : X → Bool) (xs : List X) → Less p q xs → (z : X) → r z ≡ true → Contains (filter q xs) z → (Contains (filter p xs) z → ⊥) → count_by r (filter p xs) + 1 ≤ count_by r (filter q xs)
strictly_count p q r xs less z counts kept gone =
    let is = filter_contained q xs z kept in
    let fails = false_from_ne_true (p z) (λ passes. gone (contains_filter p xs z passes is.0)) in
    let few = count_of_filter r p xs in
    let many = count_of_filter r q xs in
    let more = strictly_length (λ x. p x && r x) (λ x. q x && r x) xs (less_and p q r xs less) z is.0 (ap (λ b. b && r z) fails) (and_from (q z) (r z) is.1 counts) in
    omega (arith, few, many, more)

-- two different elements make two
pub two_elements : {X : Type 0} (x y : X) (xs : List X) → Contains xs x → Contains xs y → (x ≡ y → ⊥) → 2 ≤ length xs
two_elements x y xs c d differ = elim (cases_lt (length xs) 2) [
  | inl short ↦ absurd (differ (sym c.2 ∙ get_or_default xs c.0 x y c.1 ∙ ap (λ k. slice_index_or xs k y) (let l : c.0 < length xs = c.1 in let m : d.0 < length xs = d.1 in omega (arith, l, m, short)) ∙ d.2))
  | inr long ↦ long
]

-- one that is kept and passes counts, and two of them count twice
pub counts_one : {X : Type 0} (r : X → Bool) (x : X) (xs : List X) → Contains xs x → r x ≡ true → 1 ≤ count_by r xs
counts_one r x xs c passes = (let some = (contains_filter r xs x passes c).1 in let same = length-filter r xs in omega (arith, some, same))

pub counts_two : {X : Type 0} (r : X → Bool) (x y : X) (xs : List X) → Contains xs x → Contains xs y → (x ≡ y → ⊥) → r x ≡ true → r y ≡ true → 2 ≤ count_by r xs
counts_two r x y xs c d differ passes also = (let some = two_elements x y (filter r xs) (contains_filter r xs x passes c) (contains_filter r xs y also d) differ in let same = length-filter r xs in omega (arith, some, same))

-- two tests that agree on the elements of a list keep the same
pub filter_on : {X : Type 0} (p q : X → Bool) (xs : List X) → ((x : X) → Contains xs x → p x ≡ q x) → filter p xs ≡ filter q xs
filter_on p q xs same = filter_alike p q xs (All-weaker (Contains xs) (λ x. p x ≡ q x) same xs (All-contains_itself xs))

and_less : (a b : Bool) → (a ≡ true → b ≡ true) → a ≡ (b && a)
and_less true true h = refl
and_less true false h = sym (h refl)
and_less false true h = refl
and_less false false h = refl

-- what the first test keeps of all it keeps of what the second keeps
pub filter_filter : {X : Type 0} (p q : X → Bool) (xs : List X) → Less p q xs → filter p xs ≡ filter p (filter q xs)
filter_filter p q xs less = filter_on p (λ x. q x && p x) xs (λ x c. and_less (p x) (q x) (less x c)) ∙ sym (filter_both p q xs)

one_kept : {X : Type 0} (b : Bool) (x : X) → (cond b (x ∷ []) [] ≡ []) ⊎ (cond b (x ∷ []) [] ≡ x ∷ [])
one_kept true x = inr refl
one_kept false x = inl refl

-- where the second test keeps one element, the first keeps this one or none
pub filter_one : {X : Type 0} (p q : X → Bool) (xs : List X) → Less p q xs → (x : X) → filter q xs ≡ x ∷ [] → (filter p xs ≡ []) ⊎ (filter p xs ≡ x ∷ [])
filter_one p q xs less x one =
    let same : filter p xs ≡ cond (p x) (x ∷ []) [] = filter_filter p q xs less ∙ ap (filter p) one in
    elim (one_kept (p x) x) [ inl none ↦ inl (same ∙ none) | inr kept ↦ inr (same ∙ kept) ]

pub filter_none : {X : Type 0} (p q : X → Bool) (xs : List X) → Less p q xs → filter q xs ≡ [] → filter p xs ≡ []
filter_none p q xs less none = filter_filter p q xs less ∙ ap (filter p) none

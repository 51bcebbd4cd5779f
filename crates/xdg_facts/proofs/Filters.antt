-- A filter of a filter, filters that keep more, and membership in a filter.
use Rattle.std.proofs.Common.{◌≡◌, ◌≤◌, Bool, true, false, ◌&&◌, cond, List, [], ◌∷◌, length, refl, sym, ap, ◌∙◌, arith, ◌||◌, ℕ, ◌++◌, subst}
use Rattle.std.specs.Prelude.{filter, All, Contains, count_by}
use Rattle.std.proofs.lemmas.List.Elements.{All-head, All-tail, All-contains_itself, All-filter, All-contains, filter_passes, filter-append}
use Rattle.std.proofs.lemmas.List.Sums.{length-filter}
use Rattle.xdg_facts.proofs.Contained.{contains_filter}
use Rattle.std.specs.List.{list_any}
use Rattle.xdg_facts.proofs.In.{filter_in}
use Rattle.xdg_facts.specs.Membership.{In}

module _ {X : Type 0} where
  filter_cond : (p : X → Bool) (b : Bool) (x : X) (ys zs : List X) → filter p ys ≡ zs → filter p (cond b (x ∷ ys) ys) ≡ cond (b && p x) (x ∷ zs) zs
  filter_cond p true x ys zs e = ap (λ rest. cond (p x) (x ∷ rest) rest) e
  filter_cond p false x ys zs e = e

  pub filter_both : (p q : X → Bool) (xs : List X) → filter p (filter q xs) ≡ filter (λ x. q x && p x) xs
  filter_both p q [] = refl
  filter_both p q (x ∷ xs) = filter_cond p (q x) x (filter q xs) (filter (λ y. q y && p y) xs) (filter_both p q xs)

  pub count_of_filter : (p q : X → Bool) (xs : List X) → length (filter (λ x. q x && p x) xs) ≡ count_by p (filter q xs)
  count_of_filter p q xs = ap length (sym (filter_both p q xs)) ∙ length-filter p (filter q xs)

  pub filter_alike : (p q : X → Bool) (xs : List X) → All (λ x. p x ≡ q x) xs → filter p xs ≡ filter q xs
  filter_alike p q [] alike = refl
  filter_alike p q (x ∷ xs) alike =
      let here : p x ≡ q x = All-head (λ y. p y ≡ q y) x xs alike in
      let rest = filter_alike p q xs (All-tail (λ y. p y ≡ q y) x xs alike) in
      rw (here, rest) refl

  fewer_put : (b c : Bool) (x : X) (ys zs : List X) → (b ≡ true → c ≡ true) → length ys ≤ length zs → length (cond b (x ∷ ys) ys) ≤ length (cond c (x ∷ zs) zs)
  fewer_put true true x ys zs more fewer = omega arith
  fewer_put true false x ys zs more fewer = (let e : false ≡ true = more refl in cc)
  fewer_put false true x ys zs more fewer = omega arith
  fewer_put false false x ys zs more fewer = fewer

  -- a test that passes less keeps no more
  pub filter_fewer : (p q : X → Bool) (xs : List X) → ((x : X) → p x ≡ true → q x ≡ true) → length (filter p xs) ≤ length (filter q xs)
  filter_fewer p q [] more = omega arith
  filter_fewer p q (x ∷ xs) more = fewer_put (p x) (q x) x (filter p xs) (filter q xs) (more x) (filter_fewer p q xs more)

  pub filter_contained : (p : X → Bool) (xs : List X) (y : X) → Contains (filter p xs) y → Contains xs y × (p y ≡ true)
  filter_contained p xs y c = (
    All-contains (Contains xs) (filter p xs) y (All-filter p (Contains xs) xs (All-contains_itself xs)) c,
    All-contains (λ x. p x ≡ true) (filter p xs) y (filter_passes p xs) c,
  )

  -- a test that passes less keeps some of the same
  pub filter_among : (p q : X → Bool) (xs : List X) → ((x : X) → p x ≡ true → q x ≡ true) → (y : X) → Contains (filter p xs) y → Contains (filter q xs) y
  filter_among p q xs more y c = let both = filter_contained p xs y c in contains_filter q xs y (more y both.1) both.0

any_in : {X : Type 0} (q : X → Bool) (b : Bool) (x : X) (ys : List X) → list_any q (cond b (x ∷ ys) ys) ≡ ((b && q x) || list_any q ys)
any_in q true x ys = refl
any_in q false x ys = refl

pub any_on : {X : Type 0} (r q : X → Bool) (xs : List X) → list_any (λ x. r x && q x) xs ≡ list_any q (filter r xs)
any_on r q [] = refl
any_on r q (x ∷ xs) = ap (λ (b : Bool). (r x && q x) || b) (any_on r q xs) ∙ sym (any_in q (r x) x (filter r xs))

pub filter_one : (test : List ℕ → Bool) (x : List ℕ) → test x ≡ true → filter test (x ∷ []) ≡ x ∷ []
filter_one test x e = ap (λ b. cond b (x ∷ []) []) e

only_end : (xs : List (List ℕ)) (x y : List ℕ) → xs ++ x ∷ [] ≡ y ∷ [] → xs ≡ []
only_end [] x y e = refl
only_end (z ∷ []) x y e = absurd (cc)
only_end (z ∷ w ∷ xs) x y e = absurd (cc)

-- where the last alone passes, those before it don't
pub none_before : (test : List ℕ → Bool) (xs : List (List ℕ)) (x y : List ℕ) → test x ≡ true → filter test (xs ++ x ∷ []) ≡ y ∷ [] → filter test xs ≡ []
none_before test xs x y passes all = only_end (filter test xs) x y (ap (λ z. filter test xs ++ z) (sym (filter_one test x passes)) ∙ sym (filter-append test xs (x ∷ [])) ∙ all)

-- where none passes, a member doesn't
pub no_member : (test : List ℕ → Bool) (xs : List (List ℕ)) (x : List ℕ) → filter test xs ≡ [] → In xs x → test x ≡ true → ⊥
no_member test xs x none m passes = subst (λ z. In z x) none (filter_in test xs x passes m)

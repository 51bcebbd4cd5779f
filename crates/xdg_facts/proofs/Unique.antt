-- A predicate has at most one listing.
use Rattle.std.proofs.Common.{◌≡◌, ℕ, inl, inr, List, [], ◌∷◌, refl, sym, subst, ◌++◌, arith, length, ◌≤◌, ap}
use Rattle.xdg_facts.specs.Order.{Less, AtMost}
use Rattle.xdg_facts.specs.Listing.{RisesFrom, IsListing}
use Rattle.xdg_facts.proofs.Ordered.{less_irreflexive, less_transitive, at_most_less}
use Rattle.xdg_facts.specs.Membership.{In}
use Rattle.std.specs.List.{AllByRecursion}
use Rattle.xdg_facts.proofs.Each.{each_weaker}
use Rattle.xdg_facts.proofs.In.{in_right}
use Rattle.xdg_facts.specs.Fits.{Fits}

-- a member of a rising list comes after its start
pub rises_above : (a x : List ℕ) (xs : List (List ℕ)) → RisesFrom a xs → In xs x → Less a x
rises_above a x [] r m = absurd m
rises_above a x (y ∷ ys) r (inl e) = subst (Less a) e r.0
rises_above a x (y ∷ ys) r (inr m) = less_transitive a y x r.0 (rises_above y x ys r.1 m)

pub listing_tail : (shape : List ℕ) (P : List ℕ → Type 0) (a x : List ℕ) (xs : List (List ℕ)) → IsListing shape P a (x ∷ xs) → IsListing shape P x xs
listing_tail shape P a x xs i = record {
  rises = i.rises.1;
  each = i.each.1;
  all = λ y f p l. elim (i.all y f p (less_transitive a x y i.rises.0 l)) [
    | inl e ↦ absurd (less_irreflexive x (subst (Less x) (sym e) l))
    | inr m ↦ m
  ];
}

pub listing_unique : (shape : List ℕ) (P : List ℕ → Type 0) (a : List ℕ) (xs ys : List (List ℕ)) → IsListing shape P a xs → IsListing shape P a ys → xs ≡ ys
listing_unique shape P a [] [] i j = refl
listing_unique shape P a [] (y ∷ ys) i j = absurd (i.all y j.each.0.0 j.each.0.1 j.rises.0)
listing_unique shape P a (x ∷ xs) [] i j = absurd (j.all x i.each.0.0 i.each.0.1 i.rises.0)
listing_unique shape P a (x ∷ xs) (y ∷ ys) i j =
    let same : x ≡ y = elim (j.all x i.each.0.0 i.each.0.1 i.rises.0) [
      | inl e ↦ sym e
      | inr m ↦ elim (i.all y j.each.0.0 j.each.0.1 j.rises.0) [
        | inl e ↦ e
        | inr k ↦ absurd (less_irreflexive x (less_transitive x y x (rises_above x y xs i.rises.1 k) (rises_above y x ys j.rises.1 m)))
      ]
    ] in
    let rest : xs ≡ ys = listing_unique shape P x xs ys (listing_tail shape P a x xs i) (subst (λ z. IsListing shape P z ys) (sym same) (listing_tail shape P a y ys j)) in
    cc

pub all_above : (a : List ℕ) (xs : List (List ℕ)) → RisesFrom a xs → AllByRecursion (λ x. Less a x) xs
all_above a [] r = tt
all_above a (x ∷ xs) r = (r.0, each_weaker (λ y. Less x y) (λ y. Less a y) xs (λ y less. less_transitive a x y r.0 less) (all_above x xs r.1))

pub from_left : (a : List ℕ) (xs ys : List (List ℕ)) → RisesFrom a (xs ++ ys) → RisesFrom a xs
from_left a [] ys r = tt
from_left a (x ∷ xs) ys r = (r.0, from_left x xs ys r.1)

-- what stands before it comes before it
pub before_item : (a : List ℕ) (xs : List (List ℕ)) (x : List ℕ) (ys : List (List ℕ)) → RisesFrom a (xs ++ x ∷ ys) → AllByRecursion (λ y. AtMost y x) xs
before_item a [] x ys rises = tt
before_item a (z ∷ xs) x ys rises = (inr (rises_above z x (xs ++ x ∷ ys) rises.1 (in_right xs (x ∷ ys) x (inl refl))), before_item z xs x ys rises.1)

-- what stands behind an item comes after it
pub behind_item : (a : List ℕ) (xs : List (List ℕ)) (x : List ℕ) (ys : List (List ℕ)) → RisesFrom a (xs ++ x ∷ ys) → RisesFrom x ys
behind_item a [] x ys rises = rises.1
behind_item a (z ∷ xs) x ys rises = behind_item z xs x ys rises.1

-- a rising list of some of those that a listing has is no longer
pub no_longer : (shape : List ℕ) (P : List ℕ → Type 0) (zs : List (List ℕ)) (a b : List ℕ) (xs : List (List ℕ)) → IsListing shape P a zs → AtMost a b → RisesFrom b xs → AllByRecursion (λ x. Fits shape x × P x) xs → length xs ≤ length zs
no_longer shape P zs a b [] listing below rises each = omega arith
no_longer shape P [] a b (x ∷ xs) listing below rises each = absurd (listing.all x each.0.0 each.0.1 (at_most_less a b x below rises.0))
no_longer shape P (z ∷ zs) a b (x ∷ xs) listing below rises each = elim (listing.all x each.0.0 each.0.1 (at_most_less a b x below rises.0)) [
  | inl e ↦ let shorter = no_longer shape P zs z x xs (listing_tail shape P a z zs listing) (inl e) rises.1 each.1 in omega (arith, shorter)
  | inr m ↦
      let tail = listing_tail shape P a z zs listing in
      let shorter = no_longer shape P zs z z (x ∷ xs) tail (inl refl) (rises_above z x zs tail.rises m, rises.1) each in omega (arith, shorter)
]

-- a list with an item, of which it is the last
pub record EndsWith (xs : List (List ℕ)) (x : List ℕ) : Type 0 where
  pub before : List (List ℕ)
  pub split : xs ≡ before ++ x ∷ []

pub ends_with : (a x : List ℕ) (xs : List (List ℕ)) → RisesFrom a xs → In xs x → ((y : List ℕ) → In xs y → Less x y → ⊥) → EndsWith xs x
ends_with a x [] rises m none = absurd m
ends_with a x (y ∷ []) rises (inl e) none = record { before = []; split = ap (λ z. z ∷ []) e }
ends_with a x (y ∷ z ∷ xs) rises (inl e) none = absurd (none z (inr (inl refl)) (subst (λ w. Less w z) e rises.1.0))
ends_with a x (y ∷ xs) rises (inr m) none =
    let more = ends_with y x xs rises.1 m (λ w k. none w (inr k)) in
    record { before = y ∷ more.before; split = ap (λ z. y ∷ z) more.split }

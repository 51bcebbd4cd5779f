-- What holds of each element of a list.
use Rattle.std.proofs.Common.{◌≡◌, ◌↔◌, ℕ, ◌<◌, ◌+◌, List, [], ◌∷◌, ◌++◌, length, get_or, refl, ap₂, subst, inl, inr, Bool, true, false, map, cond, zero, arith, suc, sym, slice_set, ◌≢◌, reverse, set, slice_index_or, ap, ◌≤◌}
use Rattle.std.specs.Prelude.{filter, All, Contains}
use Rattle.std.specs.List.{AllByRecursion, range_with_len}
use Rattle.std.proofs.lemmas.List.Elements.{All-append, All-cons, All-filter, All-from_recursion, All-head, All-map, All-nil, All-tail, All-weaker, filter_passes, recursion_from_All}
use Rattle.std.proofs.lemmas.Bool.{false≢true, cases_lt, cases_eq}
use Rattle.xdg_facts.specs.Membership.{In}
use Rattle.std.proofs.Math.ListN.{get_or-append}
use Rattle.std.proofs.Math.Seq.{get_or-append_seam}
use Rattle.std.proofs.lemmas.List.{length-append, get_or-set_same, get_or-set_other, reverse-append}

pub each_at : {X : Type 0} (P : X → Type 0) (xs : List X) (k : ℕ) (d : X) → k < length xs → AllByRecursion P xs → P (get_or xs k d)
each_at P xs k d l a = All-from_recursion P xs a k d l

pub each_contained : {X : Type 0} (P : X → Type 0) (xs : List X) (x : X) → AllByRecursion P xs → Contains xs x → P x
each_contained P xs x a c = subst P c.2 (each_at P xs c.0 x c.1 a)

-- of each that stands in the list
pub each_in : {X : Type 0} (P : X → Type 0) (xs : List X) (x : X) → AllByRecursion P xs → In xs x → P x
each_in P [] x a i = absurd i
each_in P (y ∷ xs) x a (inl e) = subst P e a.0
each_in P (y ∷ xs) x a (inr i) = each_in P xs x a.1 i

pub each_weaker : {X : Type 0} (P Q : X → Type 0) (xs : List X) → ((x : X) → P x → Q x) → AllByRecursion P xs → AllByRecursion Q xs
each_weaker P Q xs h a = recursion_from_All Q xs (All-weaker P Q h xs (All-from_recursion P xs a))

pub each_append : {X : Type 0} (P : X → Type 0) (xs ys : List X) → AllByRecursion P xs → AllByRecursion P ys → AllByRecursion P (xs ++ ys)
each_append P xs ys a b = recursion_from_All P (xs ++ ys) (All-append P xs ys (All-from_recursion P xs a) (All-from_recursion P ys b))

pub each_map : {X Y : Type 0} (P : Y → Type 0) (f : X → Y) (xs : List X) → AllByRecursion (λ x. P (f x)) xs → AllByRecursion P (map f xs)
each_map P f xs a = recursion_from_All P (map f xs) (All-map P f xs (All-from_recursion (λ x. P (f x)) xs a))

pub each_cond : {X : Type 0} (P : X → Type 0) (b : Bool) (x : X) (xs : List X) → P x → AllByRecursion P xs → AllByRecursion P (cond b (x ∷ xs) xs)
each_cond P true x xs h a = (h, a)
each_cond P false x xs h a = a

pub each_filter : {X : Type 0} (P : X → Type 0) (test : X → Bool) (xs : List X) → AllByRecursion P xs → AllByRecursion P (filter test xs)
each_filter P test xs a = recursion_from_All P (filter test xs) (All-filter test P xs (All-from_recursion P xs a))

pub each_passed : {X : Type 0} (test : X → Bool) (xs : List X) → AllByRecursion (λ y. test y ≡ true) (filter test xs)
each_passed test xs = recursion_from_All (λ y. test y ≡ true) (filter test xs) (filter_passes test xs)

pub each_both : {X : Type 0} (P Q : X → Type 0) (xs : List X) → AllByRecursion P xs → AllByRecursion Q xs → AllByRecursion (λ x. P x × Q x) xs
each_both P Q [] a b = tt
each_both P Q (x ∷ xs) a b = ((a.0, b.0), each_both P Q xs a.1 b.1)

pub each_of_all : {X : Type 0} (P : X → Type 0) (xs : List X) → ((x : X) → P x) → AllByRecursion P xs
each_of_all P xs h = recursion_from_All P xs (λ k d l. h _)

pub each_across : {X : Type 0} (R : X → X → Type 0) (P Q : X → Type 0) (xs ys : List X) → ((x y : X) → P x → Q y → R x y) → AllByRecursion P xs → AllByRecursion Q ys → AllByRecursion (λ x. AllByRecursion (R x) ys) xs
each_across R P Q xs ys h a b = each_weaker P (λ x. AllByRecursion (R x) ys) xs (λ x p. each_weaker Q (R x) ys (λ y q. h x y p q) b) a

pub map_alike : {X Y : Type 0} (f g : X → Y) (xs : List X) → All (λ x. f x ≡ g x) xs → map f xs ≡ map g xs
map_alike f g [] same = refl
map_alike f g (x ∷ xs) same = ap₂ (λ z zs. z ∷ zs) (All-head (λ y. f y ≡ g y) x xs same) (map_alike f g xs (All-tail (λ y. f y ≡ g y) x xs same))

-- what holds of each image
pub all_mapped : {X Y : Type 0} (P : Y → Type 0) (Q : X → Type 0) (f : X → Y) (xs : List X) → ((x : X) → P (f x) ↔ Q x) → All P (map f xs) ↔ All Q xs
all_mapped P Q f [] same = (λ all. All-nil Q, λ all. All-nil P)
all_mapped P Q f (x ∷ xs) same =
    let rest = all_mapped P Q f xs same in (
      λ all. All-cons Q x xs ((same x).0 (All-head P (f x) (map f xs) all)) (rest.0 (All-tail P (f x) (map f xs) all)),
      λ all. All-cons P (f x) (map f xs) ((same x).1 (All-head Q x xs all)) (rest.1 (All-tail Q x xs all)),
    )

module _ {X : Type 0} (P : X → Type 0) where
  pub none_kept : Unit {0} ↔ All P []
  none_kept = (λ u. All-nil P, λ all. tt)

  pub one_kept : (a : X) → P a ↔ All P (a ∷ [])
  one_kept a = (λ p. All-cons P a [] p (All-nil P), λ all. All-head P a [] all)

  pub two_kept : (a b : X) → (P a × P b) ↔ All P (a ∷ b ∷ [])
  two_kept a b = (
    λ p. All-cons P a (b ∷ []) p.0 ((one_kept b).0 p.1),
    λ all. (All-head P a (b ∷ []) all, (one_kept b).1 (All-tail P a (b ∷ []) all)),
  )

  pub three_kept : (a b c : X) → (P a × P b × P c) ↔ All P (a ∷ b ∷ c ∷ [])
  three_kept a b c = (
    λ p. All-cons P a (b ∷ c ∷ []) p.0 ((two_kept b c).0 (p.1, p.2)),
    λ all. (let rest = (two_kept b c).1 (All-tail P a (b ∷ c ∷ []) all) in (All-head P a (b ∷ c ∷ []) all, rest.0, rest.1)),
  )

  pub chosen_kept : (x y : Bool) (a b c : X) → (P a × (x ≡ true → P b) × (y ≡ true → P c)) ↔ All P (a ∷ (cond x (b ∷ []) [] ++ cond y (c ∷ []) []))
  chosen_kept true true a b c = (
    λ p. (three_kept a b c).0 (p.0, p.1 refl, p.2 refl),
    λ all. (let p = (three_kept a b c).1 all in (p.0, λ e. p.1, λ e. p.2)),
  )
  chosen_kept true false a b c = (
    λ p. (two_kept a b).0 (p.0, p.1 refl),
    λ all. (let p = (two_kept a b).1 all in (p.0, λ e. p.1, λ e. absurd (false≢true e))),
  )
  chosen_kept false true a b c = (
    λ p. (two_kept a c).0 (p.0, p.2 refl),
    λ all. (let p = (two_kept a c).1 all in (p.0, λ e. absurd (false≢true e), λ e. p.1)),
  )
  chosen_kept false false a b c = (
    λ p. (one_kept a).0 p.0,
    λ all. ((one_kept a).1 all, λ e. absurd (false≢true e), λ e. absurd (false≢true e)),
  )

-- what holds of each element holds of the one at a place
pub at_place : {X : Type 0} (All : List X → Type 0) (One : X → Type 0) → ((x : X) (xs : List X) → All (x ∷ xs) → One x × All xs) → (xs : List X) (i : ℕ) (x : X) → All xs → i < length xs → x ≡ get_or xs i x → One x
at_place All One parts [] i x h within is = absurd (omega (arith, within))
at_place All One parts (y ∷ xs) zero x h within is = subst One (sym is) (parts y xs h).0
at_place All One parts (y ∷ xs) (suc i) x h within is = at_place All One parts xs i x (parts y xs h).1 (omega (arith, within)) is

-- of each key from the first on something is said
abbrev pub keyed : {V : Type 0} → (ℕ → V) → ℕ → ℕ → List (ℕ × V)
keyed g first count = map (λ key. (key, g key)) (range_with_len first count)

-- what holds of what stands at each place of a list, and of what is pushed, holds of what stands at each place then
pub each_pushed : {A : Type 0} (P : ℕ → A → Type 0) (xs : List A) (x d : A) → ((k : ℕ) → k < length xs → P k (get_or xs k d)) → P (length xs) x → (k : ℕ) → k < length (xs ++ x ∷ []) → P k (get_or (xs ++ x ∷ []) k d)
each_pushed P xs x d below here k within = elim (cases_lt k (length xs)) [
  | inl inside ↦ subst (P k) (sym (get_or-append xs (x ∷ []) d k inside)) (below k inside)
  | inr past ↦
      let last : length xs ≡ k = (let size = length-append xs (x ∷ []) in omega (arith, size, within, past)) in
      subst (λ n. P n (get_or (xs ++ x ∷ []) n d)) last (subst (P (length xs)) (sym (get_or-append_seam xs x [] d)) here)
]

-- what holds of each place of a list in which one is set
pub set_each : {A : Type 0} (P : ℕ → A → Type 0) (xs : List A) (i : ℕ) (x d : A) → i < length xs → P i x → ((j : ℕ) → j ≢ i → P j (get_or xs j d)) → (j : ℕ) → P j (get_or (slice_set xs i x) j d)
set_each P xs i x d within here others j = elim (cases_eq j i) [
  | inl e ↦ subst (λ k. P k (get_or (slice_set xs i x) k d)) (sym e) (subst (P i) (sym (get_or-set_same xs i x d within)) here)
  | inr n ↦ subst (P j) (sym (get_or-set_other xs i j x d n)) (others j n)
]

pub each_push : {X : Type 0} (P : X → Type 0) (xs : List X) (x : X) → AllByRecursion P xs → P x → AllByRecursion P (xs ++ x ∷ [])
each_push P [] x each p = (p, tt)
each_push P (y ∷ ys) x each p = (each.0, each_push P ys x each.1 p)

pub reverse-cons : {X : Type 0} (x : X) (xs : List X) → reverse (x ∷ xs) ≡ reverse xs ++ x ∷ []
reverse-cons x xs = reverse-append (x ∷ []) xs

pub each_reverse : {X : Type 0} (P : X → Type 0) (xs : List X) → AllByRecursion P xs → AllByRecursion P (reverse xs)
each_reverse P [] each = tt
each_reverse P (x ∷ xs) each = subst (AllByRecursion P) (sym (reverse-cons x xs)) (each_push P (reverse xs) x (each_reverse P xs each.1) each.0)

pub each_from : (P : ℕ → Type 0) (xs : List ℕ) → ((k : ℕ) → k < length xs → P (get_or xs k 0)) → AllByRecursion P xs
each_from P [] each = tt
each_from P (x ∷ xs) each = (each 0 (omega arith), each_from P xs (λ k lt. each (suc k) (omega arith)))

pub each_left : {X : Type 0} (P : X → Type 0) (xs ys : List X) → AllByRecursion P (xs ++ ys) → AllByRecursion P xs
each_left P [] ys h = tt
each_left P (x ∷ xs) ys h = (h.0, each_left P xs ys h.1)

pub each_right : {X : Type 0} (P : X → Type 0) (xs ys : List X) → AllByRecursion P (xs ++ ys) → AllByRecursion P ys
each_right P [] ys p = p
each_right P (x ∷ xs) ys p = each_right P xs ys p.1

pub each_set : (P : ℕ → Type 0) (xs : List ℕ) (q a : ℕ) → AllByRecursion P xs → P a → AllByRecursion P (set xs q a)
each_set P [] q a each p = tt
each_set P (x ∷ xs) zero a each p = (p, each.1)
each_set P (x ∷ xs) (suc q) a each p = (each.0, each_set P xs q a each.1 p)

-- what is set next holds at its place, and what held before still holds
pub set_next : {A : Type 0} (P : ℕ → A → Type 0) (order : List ℕ) (values : List A) (i : ℕ) (next default : A) → slice_index_or order i 0 < length values
    → ((j : ℕ) → j < i → P (slice_index_or order j 0) (get_or values (slice_index_or order j 0) default)) → P (slice_index_or order i 0) next
    → (j : ℕ) → j < i + 1 → P (slice_index_or order j 0) (get_or (set values (slice_index_or order i 0) next) (slice_index_or order j 0) default)
set_next P order values i next default small before right j below =
    let a = slice_index_or order i 0 in
    elim (cases_eq (slice_index_or order j 0) a) [
      | inl e ↦ subst (λ m. P m (get_or (set values a next) m default)) (sym e) (subst (P a) (sym (get_or-set_same values a next default small)) right)
      | inr ne ↦ elim (cases_lt j i) [
        | inl less ↦ subst (P (slice_index_or order j 0)) (sym (get_or-set_other values a (slice_index_or order j 0) next default ne)) (before j less)
        | inr past ↦ (let e : j ≡ i = omega (arith, below, past) in absurd (ne (ap (λ m. slice_index_or order m 0) e)))
      ]
    ]

pub each_below : (xs : List ℕ) (a : ℕ) → ((k : ℕ) → k < length xs → get_or xs k 0 ≤ a) → AllByRecursion (λ y. y ≤ a) xs
each_below [] a none = tt
each_below (x ∷ xs) a none = (none 0 (omega arith), each_below xs a (λ k lt. none (suc k) (omega arith)))

-- what holds of each number below the first size, each below the second, and so on
abbrev pub EachBelow : List ℕ → (List ℕ → Type 0) → Type 0
EachBelow [] P = P []
EachBelow (size ∷ sizes) P = (u : ℕ) → u < size → EachBelow sizes (λ tuple. P (u ∷ tuple))

pub each_alike : (sizes : List ℕ) (Q P : List ℕ → Type 0) → EachBelow sizes (λ tuple. Q tuple ↔ P tuple) → EachBelow sizes Q ↔ EachBelow sizes P
each_alike [] Q P same = same
each_alike (size ∷ sizes) Q P same = (
  λ each u below. (each_alike sizes (λ t. Q (u ∷ t)) (λ t. P (u ∷ t)) (same u below)).0 (each u below),
  λ each u below. (each_alike sizes (λ t. Q (u ∷ t)) (λ t. P (u ∷ t)) (same u below)).1 (each u below),
)

-- Lists in which each element stands before all later ones.
use Rattle.std.proofs.Common.{◌↔◌, ℕ, ◌<◌, List, [], ◌∷◌, ◌++◌, length, get_or, sym, arith, subst, zero, suc, Bool, true, false, map, cond}
use Rattle.std.specs.Prelude.{filter, AllPairs}
use Rattle.std.specs.List.{AllByRecursion}
use Rattle.std.proofs.lemmas.List.{get_or-map, length-map}
use Rattle.std.proofs.lemmas.List.Elements.{recursion_from_All}
use Rattle.xdg_facts.proofs.Each.{each_at, each_weaker, each_append, each_map, each_filter}

abbrev pub Ordered : {X : Type 0} → (X → X → Type 0) → List X → Type 0
Ordered R [] = Unit {0}
Ordered R (x ∷ xs) = AllByRecursion (R x) xs × Ordered R xs

pub ordered_pairs : {X : Type 0} (R : X → X → Type 0) (xs : List X) → Ordered R xs → (i j : ℕ) (d : X) → i < j → j < length xs → R (get_or xs i d) (get_or xs j d)
ordered_pairs R (x ∷ xs) o zero (suc j) d l m = each_at (R x) xs j d (omega arith) o.0
ordered_pairs R (x ∷ xs) o (suc i) (suc j) d l m = ordered_pairs R xs o.1 i j d (omega arith) (omega arith)
ordered_pairs R xs o i j d l m = absurd (omega arith)

pub ordered_from_pairs : {X : Type 0} (R : X → X → Type 0) (xs : List X) → AllPairs R xs → Ordered R xs
ordered_from_pairs R [] p = tt
ordered_from_pairs R (x ∷ xs) p = (recursion_from_All (R x) xs (λ k d l. p 0 (suc k) d (omega arith) (omega arith)), ordered_from_pairs R xs (λ i j d l m. p (suc i) (suc j) d (omega arith) (omega arith)))

pub ordered_append : {X : Type 0} (R : X → X → Type 0) (xs ys : List X) → Ordered R xs → Ordered R ys → AllByRecursion (λ x. AllByRecursion (R x) ys) xs → Ordered R (xs ++ ys)
ordered_append R [] ys o p a = p
ordered_append R (x ∷ xs) ys o p a = (each_append (R x) xs ys o.0 a.0, ordered_append R xs ys o.1 p a.1)

pub ordered_map : {X Y : Type 0} (R : X → X → Type 0) (S : Y → Y → Type 0) (f : X → Y) (xs : List X) → ((x y : X) → R x y → S (f x) (f y)) → Ordered R xs → Ordered S (map f xs)
ordered_map R S f [] h o = tt
ordered_map R S f (x ∷ xs) h o = (each_map (S (f x)) f xs (each_weaker (R x) (λ y. S (f x) (f y)) xs (λ y r. h x y r) o.0), ordered_map R S f xs h o.1)

pub ordered_cond : {X : Type 0} (R : X → X → Type 0) (b : Bool) (x : X) (xs : List X) → AllByRecursion (R x) xs → Ordered R xs → Ordered R (cond b (x ∷ xs) xs)
ordered_cond R true x xs a o = (a, o)
ordered_cond R false x xs a o = o

pub ordered_filter : {X : Type 0} (R : X → X → Type 0) (test : X → Bool) (xs : List X) → Ordered R xs → Ordered R (filter test xs)
ordered_filter R test [] o = tt
ordered_filter R test (x ∷ xs) o = ordered_cond R (test x) x (filter test xs) (each_filter (R x) test xs o.0) (ordered_filter R test xs o.1)

pub pairs_mapped : {X Y : Type 0} (R : Y → Y → Type 0) (f : X → Y) (xs : List X) → AllPairs R (map f xs) ↔ AllPairs (λ x y. R (f x) (f y)) xs
pairs_mapped R f xs = (
  λ h i j d before within. subst (R (f (get_or xs i d))) (get_or-map f xs j d (f d) within)
      (subst (λ y. R y (get_or (map f xs) j (f d))) (get_or-map f xs i d (f d) (omega (arith, before, within))) (h i j (f d) before (subst (λ n. j < n) (sym (length-map xs f)) within))),
  λ h. ordered_pairs R (map f xs) (ordered_map (λ x y. R (f x) (f y)) R f xs (λ x y r. r) (ordered_from_pairs (λ x y. R (f x) (f y)) xs h)),
)

-- Lists in which each element stands before all later ones, and what they contain.
use Rattle.std.proofs.Common.{◌≡◌, ℕ, ◌<◌, ◌≤◌, ◌+◌, inl, inr, List, ◌∷◌, length, refl, ap, sym, arith, subst, zero, suc}
use Rattle.std.specs.Prelude.{Contains}
use Rattle.std.specs.List.{AllByRecursion, flat_map}
use Rattle.std.proofs.lemmas.Bool.{cases_eq}
use Rattle.std.proofs.lemmas.List.Elements.{Contains-append_left, Contains-append_right}
use Rattle.xdg_problem.specs.Places.{numbers_from}
use Rattle.xdg_facts.proofs.Lists.{contains_more}
use Rattle.xdg_facts.proofs.Each.{each_weaker, each_append}
use Rattle.xdg_facts.proofs.InOrder.{Ordered, ordered_append}
use Rattle.xdg_facts.proofs.Contained.{contains_head}

-- numbers

pub numbers_within : (first count : ℕ) → AllByRecursion (λ i. (first ≤ i) × (i < first + count)) (numbers_from first count)
numbers_within first zero = tt
numbers_within first (suc count) = ((omega arith, omega arith), each_weaker (λ i. (suc first ≤ i) × (i < suc first + count)) (λ i. (first ≤ i) × (i < first + suc count)) (numbers_from (suc first) count) (λ i w. (omega (arith, w.0), omega (arith, w.1))) (numbers_within (suc first) count))

pub numbers_ordered : (first count : ℕ) → Ordered (λ i j. i < j) (numbers_from first count)
numbers_ordered first zero = tt
numbers_ordered first (suc count) = (each_weaker (λ i. (suc first ≤ i) × (i < suc first + count)) (λ i. first < i) (numbers_from (suc first) count) (λ i w. omega (arith, w.0)) (numbers_within (suc first) count), numbers_ordered (suc first) count)

pub numbers_length : (first count : ℕ) → length (numbers_from first count) ≡ count
numbers_length first zero = refl
numbers_length first (suc count) = ap suc (numbers_length (suc first) count)

pub each_flat_map : {X : Type 0} (P : X → Type 0) (f : ℕ → List X) (first count : ℕ) → ((i : ℕ) → first ≤ i → i < first + count → AllByRecursion P (f i)) → AllByRecursion P (flat_map f (numbers_from first count))
each_flat_map P f first zero h = tt
each_flat_map P f first (suc count) h = each_append P (f first) (flat_map f (numbers_from (suc first) count)) (h first (omega arith) (omega arith)) (each_flat_map P f (suc first) count (λ i l m. h i (omega arith) (omega arith)))

-- the pieces are ordered, and what stands in one comes before what stands in a later one; P tells the piece
pub ordered_flat_map : {X : Type 0} (R : X → X → Type 0) (P : ℕ → X → Type 0) (f : ℕ → List X) (first count : ℕ) → ((i : ℕ) → Ordered R (f i)) → ((i : ℕ) → AllByRecursion (P i) (f i)) → ((i j : ℕ) (x y : X) → i < j → P i x → P j y → R x y) → Ordered R (flat_map f (numbers_from first count))
ordered_flat_map R P f first zero o a h = tt
ordered_flat_map R P f first (suc count) o a h =
    ordered_append R (f first) (flat_map f (numbers_from (suc first) count)) (o first) (ordered_flat_map R P f (suc first) count o a h)
    (each_weaker (P first) (λ x. AllByRecursion (R x) (flat_map f (numbers_from (suc first) count))) (f first)
    (λ x p. each_flat_map (R x) f (suc first) count (λ i l m. each_weaker (P i) (R x) (f i) (λ y q. h first i x y (omega arith) p q) (a i)))
    (a first))

-- containing

pub contains_flat_map : {X : Type 0} (f : ℕ → List X) (first count i : ℕ) (x : X) → first ≤ i → i < first + count → Contains (f i) x → Contains (flat_map f (numbers_from first count)) x
contains_flat_map f first zero i x l m c = absurd (omega arith)
contains_flat_map f first (suc count) i x l m c = elim (cases_eq i first) [
  | inl e ↦ Contains-append_left (f first) (flat_map f (numbers_from (suc first) count)) x (subst (λ j. Contains (f j) x) e c)
  | inr n ↦ Contains-append_right (f first) (flat_map f (numbers_from (suc first) count)) x (contains_flat_map f (suc first) count i x (omega (arith, n)) (omega arith) c)
]

pub contains_numbers : (first count i : ℕ) → first ≤ i → i < first + count → Contains (numbers_from first count) i
contains_numbers first zero i l m = absurd (omega arith)
contains_numbers first (suc count) i l m = elim (cases_eq i first) [
  | inl e ↦ subst (λ z. Contains (first ∷ numbers_from (suc first) count) z) (sym e) (contains_head first (numbers_from (suc first) count))
  | inr n ↦ contains_more first (numbers_from (suc first) count) i (contains_numbers (suc first) count i (omega (arith, n)) (omega arith))
]

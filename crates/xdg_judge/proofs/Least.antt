-- The least tuple from the first three numbers that fail.
use Rattle.std.proofs.Common.{◌≡◌, ℕ, ◌<◌, inl, inr, true, List, [], ◌∷◌, length, get_or, take, drop, map, refl, sym, subst, arith, rules}
use Rattle.std.specs.Prelude.{nat_lt}
use Rattle.std.proofs.lemmas.Bool.{cases_order, ltb-true}
use Rattle.xdg_facts.specs.Order.{AtMost}
use Rattle.xdg_problem.specs.declared.analysis.Edge.{Edge}
use Rattle.xdg_problem.specs.declared.conditions.Condition.{Condition}
use Rattle.xdg_problem.specs.declared.conditions.Condition.TheVariants as conditions
use Rattle.xdg_problem.specs.declared.parts.Group.{Group}
use Rattle.xdg_problem.specs.declared.parts.Parts.{Parts}
use Rattle.xdg_problem.specs.Conditions.{AreBelow, IsTuple, items_of, item_count}
use Rattle.xdg_problem.specs.Places.{nodes}
use Rattle.xdg_problem.proofs.Tuples.{tuples_of}
use Rattle.xdg_judge.specs.Searching.{IsSearched, tuple_for, second_size, third_size, FirstThree}
use Rattle.xdg_facts.proofs.Each.{EachBelow}
use Rattle.xdg_facts.proofs.Ordered.{at_most_cons}

-- the first tuple below some sizes that fails, number by number
abbrev First : List ℕ → (List ℕ → Type 0) → List ℕ → Type 0
First [] P [] = P [] → ⊥
First (size ∷ sizes) P (u ∷ tuple) = (u < size) × First sizes (λ t. P (u ∷ t)) tuple × ((a : ℕ) → a < u → EachBelow sizes (λ t. P (a ∷ t)))
First sizes P tuple = ⊥

-- a tuple stands in the range, and no lesser one in it fails
abbrev Least : List ℕ → (List ℕ → Type 0) → List ℕ → Type 0
Least sizes P t = AreBelow sizes t × ((other : List ℕ) → AreBelow sizes other → (P other → ⊥) → AtMost t other)

first_below : (sizes : List ℕ) (P : List ℕ → Type 0) (t : List ℕ) → First sizes P t → AreBelow sizes t
first_below [] P [] f = tt
first_below (size ∷ sizes) P (u ∷ t) f = (f.0, first_below sizes (λ x. P (u ∷ x)) t f.1)
first_below sizes P t f = absurd f

first_at_most : (sizes : List ℕ) (P : List ℕ → Type 0) (t other : List ℕ) → First sizes P t → AreBelow sizes other → (P other → ⊥) → AtMost t other
first_at_most [] P [] [] f w fails = inl refl
first_at_most (size ∷ sizes) P (u ∷ t) (a ∷ other) f w fails = elim (cases_order a u) [
  | inl same ↦ subst (λ z. AtMost (u ∷ t) (z ∷ other)) (sym same) (at_most_cons u u t other refl (first_at_most sizes (λ x. P (u ∷ x)) t other f.1 w.1 (subst (λ z. P (z ∷ other) → ⊥) same fails)))
  | inr (inl less) ↦ absurd (fails (tuples_of sizes (λ x. P (a ∷ x)) (f.2 a less) other w.1))
  | inr (inr more) ↦ inr (inl more)
]
first_at_most sizes P t other f w fails = absurd (search rules)

least_first : (sizes : List ℕ) (P : List ℕ → Type 0) (t : List ℕ) → First sizes P t → Least sizes P t
least_first sizes P t f = (first_below sizes P t f, λ other. first_at_most sizes P t other f)

-- The tuples of one to three sizes, from three numbers of which those that they have no place for are below 1.
module _ (P : List ℕ → Type 0) where
  kept : (n : ℕ) (sizes : List ℕ) → nat_lt (length sizes) 3 ≡ true → ((a : ℕ) → a < n → (b : ℕ) → b < get_or sizes 0 1 → (c : ℕ) → c < get_or sizes 1 1 → P (a ∷ take (length sizes) (b ∷ c ∷ [])))
      → (t : List ℕ) → AreBelow (n ∷ sizes) t → P t
  kept n [] few h = tuples_of (n ∷ []) P (λ a l. h a l 0 (omega arith) 0 (omega arith))
  kept n (m ∷ []) few h = tuples_of (n ∷ m ∷ []) P (λ a l b k. h a l b k 0 (omega arith))
  kept n (m ∷ k ∷ []) few h = tuples_of (n ∷ m ∷ k ∷ []) P h
  kept n (m ∷ k ∷ j ∷ sizes) few h = absurd (omega (arith, ltb-true _ _ few))

  least : (n : ℕ) (sizes : List ℕ) (u x y : ℕ) → nat_lt (length sizes) 3 ≡ true → FirstThree n (get_or sizes 0 1) (get_or sizes 1 1) (λ a b c. P (a ∷ take (length sizes) (b ∷ c ∷ []))) u x y
      → Least (n ∷ sizes) P (u ∷ take (length sizes) (x ∷ y ∷ []))
  least n [] u x y few f = least_first (n ∷ []) P (u ∷ []) (f.within, f.here.here.fails, λ a l. f.before a l 0 (omega arith) 0 (omega arith))
  least n (m ∷ []) u x y few f = least_first (n ∷ m ∷ []) P (u ∷ x ∷ []) (f.within, (f.here.within, f.here.here.fails, λ b l. f.here.before b l 0 (omega arith)), λ a l b k. f.before a l b k 0 (omega arith))
  least n (m ∷ k ∷ []) u x y few f = least_first (n ∷ m ∷ k ∷ []) P (u ∷ x ∷ y ∷ []) (f.within, (f.here.within, (f.here.here.within, f.here.here.fails, f.here.here.before), f.here.before), f.before)
  least n (m ∷ k ∷ j ∷ sizes) u x y few f = absurd (omega (arith, ltb-true _ _ few))

-- the sizes of all items but the first, which is a node
abbrev sizes_of : Condition → Parts → Group → List ℕ
sizes_of condition parts group = map (item_count parts group) (drop 1 (items_of condition))

-- every triple passes, so every tuple in the range does
pub kept_of : (condition : Condition) (parts : Parts) (group : Group) (edges : List Edge) (P : List ℕ → Type 0) → IsSearched condition → ((a : ℕ) → a < nodes parts → (b : ℕ) → b < second_size condition parts group → (c : ℕ) → c < third_size condition parts group → P (tuple_for condition a b c)) → (t : List ℕ) → IsTuple condition parts group edges t → P t
kept_of conditions.Roots parts group edges P searched h = absurd searched
kept_of conditions.Rule parts group edges P searched h = absurd searched
kept_of conditions.Bound parts group edges P searched h = absurd searched
kept_of condition parts group edges P searched h = kept P (nodes parts) (sizes_of condition parts group) refl h

-- the first triple that fails gives the least tuple
pub least_of : (condition : Condition) (parts : Parts) (group : Group) (edges : List Edge) (P : List ℕ → Type 0) (u x y : ℕ) → IsSearched condition → FirstThree (nodes parts) (second_size condition parts group) (third_size condition parts group) (λ a b c. P (tuple_for condition a b c)) u x y → IsTuple condition parts group edges (tuple_for condition u x y) × ((other : List ℕ) → IsTuple condition parts group edges other → (P other → ⊥) → AtMost (tuple_for condition u x y) other)
least_of conditions.Roots parts group edges P u x y searched f = absurd searched
least_of conditions.Rule parts group edges P u x y searched f = absurd searched
least_of conditions.Bound parts group edges P u x y searched f = absurd searched
least_of condition parts group edges P u x y searched f = least P (nodes parts) (sizes_of condition parts group) u x y refl f

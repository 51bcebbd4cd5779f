-- Nodes that are possible for a name, whatever a second name stands for.
use Rattle.std.proofs.Common.{◌≡◌, ◌↔◌, ℕ, ◌+◌, ◌<◌, ◌≤◌, inl, inr, Bool, true, false, ◌&&◌, List, length, map, take, get_or, sym, ◌∙◌, subst, arith}
use Rattle.std.specs.Prelude.{not, ◌==◌}
use Rattle.std.proofs.lemmas.Bool.{and_from, cases_Bool, eqb-true, not_from_false}
use Rattle.std.proofs.lemmas.List.{take_all}
use Rattle.xdg_problem.specs.declared.formula.Formula.{Formula}
use Rattle.xdg_problem.specs.declared.formula.Formula.TheVariants as y
use Rattle.xdg_problem.specs.declared.parts.Parts.{Parts}
use Rattle.xdg_problem.specs.Claims.{claims_of, claim}
use Rattle.xdg_problem.specs.Places.{nodes}
use Rattle.xdg_problem.specs.Truths.{bound, HasTruth}
use Rattle.xdg_rules.specs.Worths.{Makes}
use Rattle.xdg_problem.proofs.Bindings.{bound_else}
use Rattle.xdg_formula_value.specs.Pairs.{Relates, edges_for}
use Rattle.xdg_graph.specs.Every.{IsEvery}
use Rattle.xdg_formula_value.specs.Rows.{AreFirst, Bounds, IsRow, Joined, open_in}
use Rattle.xdg_formula_value.specs.Several.{MakesSeveral}
use Rattle.xdg_formula_value.specs.declared.pair.Pair.{Pair}
use Rattle.xdg_formula_value.proofs.Fronts.{item_of, several_more, several_none}
use Rattle.xdg_formula_value.proofs.Rowed.{open_first}
use Rattle.xdg_facts.specs.Rises.{has}
use Rattle.xdg_facts.proofs.Numbers.{cond_swapped}
use Rattle.xdg_facts.proofs.Sets.{none_in}

-- where a set bounds one of two that are wanted together, and another does at what is still open
joined_open : (both : Bool) (care old still : List ℕ) (v : ℕ) (P Q Part : Type 0) → has care v ≡ true → has still v ≡ open_in both care old v → (P → has old v ≡ true) → (has still v ≡ true → Q → Part) → Joined both P Q → Joined both (has old v ≡ true) Part
joined_open true care old still v P Q Part within is p q both = (p both.0, q (is ∙ and_from (has care v) (has old v) within (p both.0)) both.1)
joined_open false care old still v P Q Part within is p q one = elim (cases_Bool (has old v)) [
  | inl on ↦ inl on
  | inr off ↦ elim one [ inl x ↦ inl (p x) | inr y ↦ inr (q (is ∙ and_from (has care v) (not (has old v)) within (not_from_false (has old v) off)) y) ]
]

joined_shut : (both : Bool) (care old still : List ℕ) (v : ℕ) (P Q : Type 0) → has care v ≡ true → has still v ≡ open_in both care old v → (P → has old v ≡ true) → (has still v ≡ true → ⊥) → Joined both P Q → has old v ≡ true
joined_shut true care old still v P Q within is p shut both = p both.0
joined_shut false care old still v P Q within is p shut one = elim (cases_Bool (has old v)) [
  | inl on ↦ on
  | inr off ↦ absurd (shut (is ∙ and_from (has care v) (not (has old v)) within (not_from_false (has old v) off)))
]

bound_swapped : (b : ℕ → ℕ) (name other v node : ℕ) → (other ≡ name → ⊥) → bound (bound b name v) other node ≡ bound (bound b other node) name v
bound_swapped b name other v node differ = λ i x. cond_swapped (x == other) (x == name) node v (b x) (λ at_other at_name. differ (sym (eqb-true x other at_other) ∙ eqb-true x name at_name)) i

module _ (parts : Parts) (box : List (List Bool)) (truth : Bool) (b : ℕ → ℕ) (name other : ℕ) (care : List ℕ) where
  -- a first node for the name and a second one for the other make the formula so
  abbrev pub Possible : Formula → ℕ → ℕ → Type 0
  Possible f v node = Makes parts box (claim f) truth (bound (bound b name v) other node)

  -- ---- conjunctions and disjunctions

  abbrev pub SeveralPossible : Bool → List Formula → ℕ → ℕ → Type 0
  SeveralPossible each fs v node = MakesSeveral each parts box (claims_of (map claim fs)) truth (bound (bound b name v) other node)

  module _ (each : Bool) (fs : List Formula) where
    pub several_bounds_start : (set : List ℕ) → nodes parts ≤ 128 → AreFirst (nodes parts) care → ((v : ℕ) → v < 128 → has set v ≡ each) → Bounds care (SeveralPossible each (take 0 fs)) set
    several_bounds_start set few first same v node within so = same v (let l = first v within in omega (arith, l, few)) ∙ (several_none parts box (bound (bound b name v) other node) truth each).1 so

    module _ (i : ℕ) (f : Formula) (old still : List ℕ) (l : i < length fs) (is : f ≡ get_or fs i f) (so_far : Bounds care (SeveralPossible each (take i fs)) old) (open_is : (v : ℕ) → has still v ≡ open_in each care old v) where
      parts_of : (v node : ℕ) → SeveralPossible each (take (i + 1) fs) v node → Joined each (SeveralPossible each (take i fs) v node) (Possible f v node)
      parts_of v node so = (several_more parts box (bound (bound b name v) other node) truth each fs i f l is).1 so

      pub several_bounds_turn : (part new : List ℕ) → Bounds still (Possible f) part → ((v : ℕ) → (has new v ≡ true) ↔ Joined each (has old v ≡ true) (has part v ≡ true)) → Bounds care (SeveralPossible each (take (i + 1) fs)) new
      several_bounds_turn part new here joined v node within so = (joined v).1 (joined_open each care old still v (SeveralPossible each (take i fs) v node) (Possible f v node) (has part v ≡ true) within (open_is v) (so_far v node within) (λ there. here v node there) (parts_of v node so))

      pub several_bounds_skip : length still ≡ 0 → Bounds care (SeveralPossible each (take (i + 1) fs)) old
      several_bounds_skip none v node within so = joined_shut each care old still v (SeveralPossible each (take i fs) v node) (Possible f v node) within (open_is v) (so_far v node within) (none_in still v none) (parts_of v node so)

  -- ---- pairs

  -- what stands for another name stays
  stays : (P : ℕ → Type 0) (first v node : ℕ) → (first ≡ other → ⊥) → P (bound (bound b name v) other node first) → P (bound b name v first)
  stays P first v node differ p = subst P (bound_else (bound b name v) other node first differ) p

  -- a pair of which neither is the further name
  pub pair_bounds : (pair : Pair) (first second : ℕ) (row : List ℕ) → (first ≡ other → ⊥) → (second ≡ other → ⊥) → IsRow (nodes parts) (λ v. HasTruth truth (Relates pair (edges_for truth) parts box (bound b name v first) (bound b name v second))) row
      → (v node : ℕ) → v < nodes parts → HasTruth truth (Relates pair (edges_for truth) parts box (bound (bound b name v) other node first) (bound (bound b name v) other node second)) → has row v ≡ true
  pair_bounds pair first second row first_differs second_differs is v node within so = (is v within).1
      (stays (λ k. HasTruth truth (Relates pair (edges_for truth) parts box k (bound b name v second))) first v node first_differs
      (stays (λ k. HasTruth truth (Relates pair (edges_for truth) parts box (bound (bound b name v) other node first) k)) second v node second_differs so))

  -- ---- nodes that are possible for the second name

  module _ (f : Formula) (all : List ℕ) (every : IsEvery (nodes parts) all) where
    pub second_bounds : (set met : List ℕ) → (other ≡ name → ⊥) → Bounds all (λ w node. Makes parts box (claim f) truth (bound (bound b other w) name node)) set → ((v : ℕ) → has met v ≡ (has all v && has set v)) → (v node : ℕ) → node < nodes parts → Possible f v node → has met node ≡ true
    second_bounds set met differ bounds meets v node l so = meets node ∙ and_from (has all node) (has set node) ((every node).1 l) (bounds node v ((every node).1 l) (subst (Makes parts box (claim f) truth) (bound_swapped b name other v node differ) so))

-- what a loop over parts asks for
pub ruleset several_steps = (take_all, item_of, open_first, several_bounds_start, several_bounds_skip)

-- The places: their order, what they are, and how many.
use Rattle.std.proofs.Common.{◌≡◌, ◌≢◌, ℕ, ◌<◌, ◌≤◌, ◌+◌, inl, inr, List, [], ◌∷◌, length, get_or, refl, ap, sym, ◌∙◌, arith, subst, zero, suc, Bool, true, false, cond, not}
use Rattle.std.specs.Prelude.{AllPairs, Contains, ◌==◌, slice_get, Some}
use Rattle.std.specs.List.{AllByRecursion, flat_map}
use Rattle.std.proofs.lemmas.Bool.{ne_eqb, not-true, eqb-false, cases_Bool}
use Rattle.std.proofs.lemmas.List.Elements.{Contains-append_left, Contains-append_right}
use Rattle.xdg_problem.specs.declared.analysis.Edge.{Edge}
use Rattle.xdg_problem.specs.declared.parts.DimPlan.{DimPlan}
use Rattle.xdg_problem.specs.declared.parts.Parts.{Parts}
use Rattle.xdg_problem.specs.Places.{below, edge, others, places_out, places_of, places_from, nodes, places}
use Rattle.xdg_problem.specs.Analyses.{IsPlace, Before}
use Rattle.xdg_problem.proofs.Ordered.{each_flat_map, ordered_flat_map, numbers_within, numbers_ordered, contains_flat_map, contains_numbers}
use Rattle.xdg_problem.proofs.PlacePlans.{dim_within, plan_read}
use Rattle.xdg_facts.proofs.InOrder.{Ordered, ordered_pairs, ordered_append, ordered_map, ordered_filter}
use Rattle.xdg_facts.proofs.Each.{each_weaker, each_append, each_map, each_filter, each_passed, each_both, each_of_all, each_across, each_contained}
use Rattle.xdg_facts.proofs.Contained.{contains_map, contains_filter}

-- what stands among the places

-- the places out of a mother
abbrev out_of : ℕ → ℕ → ℕ → ℕ → List Edge
out_of dim n labels mother = flat_map (λ label. places_out dim n mother label) (below labels)

others_at : (n mother : ℕ) → AllByRecursion (λ i. (i < n) × (i ≡ mother → ⊥)) (others n mother)
others_at n mother = each_weaker (λ i. (i < n) × (not (i == mother) ≡ true)) (λ i. (i < n) × (i ≡ mother → ⊥)) (others n mother) (λ i h. (h.0, λ e. eqb-false i mother (not-true (i == mother) h.1) e))
    (each_both (λ i. i < n) (λ i. not (i == mother) ≡ true) (others n mother) (each_filter (λ i. i < n) (λ i. not (i == mother)) (below n) (each_weaker (λ i. (0 ≤ i) × (i < 0 + n)) (λ i. i < n) (below n) (λ i h. omega (arith, h.1)) (numbers_within 0 n))) (each_passed (λ i. not (i == mother)) (below n)))

record IsOf (dim n labels : ℕ) (e : Edge) : Type 0 where
  pub dim_is : e.dim.0 ≡ dim
  pub mother : e.mother.0 < n
  pub label : e.label.0 < labels
  pub daughter : e.daughter.0 < n
  pub differ : e.mother.0 ≢ e.daughter.0

places_of_are : (dim n labels : ℕ) → AllByRecursion (IsOf dim n labels) (places_of dim n labels)
places_of_are dim n labels = each_flat_map (IsOf dim n labels) (out_of dim n labels) 0 n (λ mother l m. each_flat_map (IsOf dim n labels) (λ label. places_out dim n mother label) 0 labels (λ label p q. each_map (IsOf dim n labels) (λ daughter. edge dim mother label daughter) (others n mother)
    (each_weaker (λ i. (i < n) × (i ≡ mother → ⊥)) (λ daughter. IsOf dim n labels (edge dim mother label daughter)) (others n mother) (λ i h. record { dim_is = refl; mother = omega (arith, m); label = omega (arith, q); daughter = h.0; differ = λ e. h.1 (sym e) }) (others_at n mother))))

record IsPlaceFrom (dim n : ℕ) (plans : List DimPlan) (e : Edge) : Type 0 where
  pub place : ℕ
  pub plan : DimPlan
  pub plan_is : slice_get plans place ≡ Some plan
  pub dim_is : e.dim.0 ≡ dim + place
  pub graph : plan.graph ≡ true
  pub label : e.label.0 < length plan.labels
  pub mother : e.mother.0 < n
  pub daughter : e.daughter.0 < n
  pub differ : e.mother.0 ≢ e.daughter.0

plan_are : (dim n : ℕ) (plan : DimPlan) (plans : List DimPlan) (b : Bool) → plan.graph ≡ b → AllByRecursion (IsPlaceFrom dim n (plan ∷ plans)) (cond b (places_of dim n (length plan.labels)) [])
plan_are dim n plan plans true g = each_weaker (IsOf dim n (length plan.labels)) (IsPlaceFrom dim n (plan ∷ plans)) (places_of dim n (length plan.labels))
    (λ e h. record { place = 0; plan = plan; plan_is = refl; dim_is = (let d : e.dim.0 ≡ dim = h.dim_is in omega arith); graph = g; label = h.label; mother = h.mother; daughter = h.daughter; differ = h.differ })
    (places_of_are dim n (length plan.labels))
plan_are dim n plan plans false g = tt

from_are : (dim n : ℕ) (plans : List DimPlan) → AllByRecursion (IsPlaceFrom dim n plans) (places_from dim n plans)
from_are dim n [] = tt
from_are dim n (plan ∷ plans) = each_append (IsPlaceFrom dim n (plan ∷ plans)) (cond plan.graph (places_of dim n (length plan.labels)) []) (places_from (suc dim) n plans) (plan_are dim n plan plans plan.graph refl)
    (each_weaker (IsPlaceFrom (suc dim) n plans) (IsPlaceFrom dim n (plan ∷ plans)) (places_from (suc dim) n plans)
    (λ e h. record { place = suc h.place; plan = h.plan; plan_is = h.plan_is; dim_is = (let d : e.dim.0 ≡ suc dim + h.place = h.dim_is in omega arith); graph = h.graph; label = h.label; mother = h.mother; daughter = h.daughter; differ = h.differ })
    (from_are (suc dim) n plans))

-- the order of the places of one label, of one mother, of one dimension and of all

out_at : (dim n mother label : ℕ) → AllByRecursion (λ e. (e.dim.0 ≡ dim) × (e.mother.0 ≡ mother) × (e.label.0 ≡ label)) (places_out dim n mother label)
out_at dim n mother label = each_map (λ (e : Edge). (e.dim.0 ≡ dim) × (e.mother.0 ≡ mother) × (e.label.0 ≡ label)) (λ daughter. edge dim mother label daughter) (others n mother) (each_of_all (λ daughter. (dim ≡ dim) × (mother ≡ mother) × (label ≡ label)) (others n mother) (λ daughter. (refl, refl, refl)))

out_ordered : (dim n mother label : ℕ) → Ordered Before (places_out dim n mother label)
out_ordered dim n mother label = ordered_map (λ i j. i < j) Before (λ daughter. edge dim mother label daughter) (others n mother) (λ i j l. inr (refl, inr (refl, inr (refl, l)))) (ordered_filter (λ i j. i < j) (λ other. not (other == mother)) (below n) (numbers_ordered 0 n))

mother_at : (dim n labels mother : ℕ) → AllByRecursion (λ e. (e.dim.0 ≡ dim) × (e.mother.0 ≡ mother)) (out_of dim n labels mother)
mother_at dim n labels mother = each_flat_map (λ (e : Edge). (e.dim.0 ≡ dim) × (e.mother.0 ≡ mother)) (λ label. places_out dim n mother label) 0 labels (λ label l m. each_weaker (λ (e : Edge). (e.dim.0 ≡ dim) × (e.mother.0 ≡ mother) × (e.label.0 ≡ label)) (λ e. (e.dim.0 ≡ dim) × (e.mother.0 ≡ mother)) (places_out dim n mother label) (λ e h. (h.0, h.1)) (out_at dim n mother label))

mother_ordered : (dim n labels mother : ℕ) → Ordered Before (out_of dim n labels mother)
mother_ordered dim n labels mother = ordered_flat_map Before (λ label e. (e.dim.0 ≡ dim) × (e.mother.0 ≡ mother) × (e.label.0 ≡ label)) (λ label. places_out dim n mother label) 0 labels (λ label. out_ordered dim n mother label) (λ label. out_at dim n mother label)
    (λ i j x y l p q. inr (p.0 ∙ sym q.0, inr (p.1 ∙ sym q.1, inl (let a : x.label.0 ≡ i = p.2 in let b : y.label.0 ≡ j = q.2 in omega arith))))

dim_ordered : (dim n labels : ℕ) → Ordered Before (places_of dim n labels)
dim_ordered dim n labels = ordered_flat_map Before (λ mother e. (e.dim.0 ≡ dim) × (e.mother.0 ≡ mother)) (out_of dim n labels) 0 n (λ mother. mother_ordered dim n labels mother) (λ mother. mother_at dim n labels mother)
    (λ i j x y l p q. inr (p.0 ∙ sym q.0, inl (let a : x.mother.0 ≡ i = p.1 in let b : y.mother.0 ≡ j = q.1 in omega arith)))

from_ordered : (dim n : ℕ) (plans : List DimPlan) → Ordered Before (places_from dim n plans)
from_ordered dim n [] = tt
from_ordered dim n (plan ∷ plans) = elim (cases_Bool plan.graph) [
  | inl e ↦ rw e (ordered_append Before (places_of dim n (length plan.labels)) (places_from (suc dim) n plans) (dim_ordered dim n (length plan.labels)) (from_ordered (suc dim) n plans)
      (each_across Before (IsOf dim n (length plan.labels)) (IsPlaceFrom (suc dim) n plans) (places_of dim n (length plan.labels)) (places_from (suc dim) n plans)
      (λ x y p q. inl (let here = p.dim_is in let later = q.dim_is in omega (arith, here, later))) (places_of_are dim n (length plan.labels)) (from_are (suc dim) n plans)))
  | inr e ↦ rw e (from_ordered (suc dim) n plans)
]

pub places_ordered : (parts : Parts) → Ordered Before (places parts)
places_ordered parts = from_ordered 0 (nodes parts) parts.dims

-- the places stand strictly in the order in which edges are decided
pub places_before : (parts : Parts) → AllPairs Before (places parts)
places_before parts = ordered_pairs Before (places parts) (places_ordered parts)

is_place_from : (parts : Parts) (e : Edge) → IsPlaceFrom 0 (nodes parts) parts.dims e → IsPlace parts e
is_place_from parts e h =
    let d : e.dim.0 ≡ h.place = (let k : e.dim.0 ≡ 0 + h.place = h.dim_is in omega arith) in
    record { plan = h.plan; plan_is = subst (λ i. slice_get parts.dims i ≡ Some h.plan) (sym d) h.plan_is; graph = h.graph; label = h.label; mother = h.mother; daughter = h.daughter; differ = h.differ }

pub each_is_place : (parts : Parts) → AllByRecursion (IsPlace parts) (places parts)
each_is_place parts = each_weaker (IsPlaceFrom 0 (nodes parts) parts.dims) (IsPlace parts) (places parts) (is_place_from parts) (from_are 0 (nodes parts) parts.dims)

pub is_place : (parts : Parts) (e : Edge) → Contains (places parts) e → IsPlace parts e
is_place parts e c = each_contained (IsPlace parts) (places parts) e (each_is_place parts) c

contains_of : (dim n labels mother label daughter : ℕ) → mother < n → label < labels → daughter < n → (mother ≡ daughter → ⊥) → Contains (places_of dim n labels) (edge dim mother label daughter)
contains_of dim n labels mother label daughter m l d differ =
    let e = edge dim mother label daughter in
    contains_flat_map (out_of dim n labels) 0 n mother e (omega arith) (omega arith)
    (contains_flat_map (λ label. places_out dim n mother label) 0 labels label e (omega arith) (omega arith)
    (contains_map (λ daughter. edge dim mother label daughter) (others n mother) daughter
    (contains_filter (λ other. not (other == mother)) (below n) daughter (ap not (ne_eqb daughter mother (λ s. differ (sym s)))) (contains_numbers 0 n daughter (omega arith) (omega arith)))))

contains_from : (dim n : ℕ) (plans : List DimPlan) (place : ℕ) (plan : DimPlan) (mother label daughter : ℕ) → place < length plans → get_or plans place plan ≡ plan → plan.graph ≡ true → mother < n → label < length plan.labels → daughter < n → (mother ≡ daughter → ⊥) → Contains (places_from dim n plans) (edge (dim + place) mother label daughter)
contains_from dim n [] place plan mother label daughter w i g m l d differ = absurd (omega arith)
contains_from dim n (first ∷ plans) zero plan mother label daughter w i g m l d differ =
    let z : dim + 0 ≡ dim = omega arith in
    let h : first ≡ plan = i in
    Contains-append_left (cond first.graph (places_of dim n (length first.labels)) []) (places_from (suc dim) n plans) (edge (dim + 0) mother label daughter)
    (subst (λ p. Contains (cond p.graph (places_of dim n (length p.labels)) []) (edge (dim + 0) mother label daughter)) (sym h)
    (subst (λ b. Contains (cond b (places_of dim n (length plan.labels)) []) (edge (dim + 0) mother label daughter)) (sym g)
    (subst (λ k. Contains (places_of dim n (length plan.labels)) (edge k mother label daughter)) (sym z) (contains_of dim n (length plan.labels) mother label daughter m l d differ))))
contains_from dim n (first ∷ plans) (suc place) plan mother label daughter w i g m l d differ =
    let z : suc dim + place ≡ dim + suc place = omega arith in
    Contains-append_right (cond first.graph (places_of dim n (length first.labels)) []) (places_from (suc dim) n plans) (edge (dim + suc place) mother label daughter)
    (subst (λ k. Contains (places_from (suc dim) n plans) (edge k mother label daughter)) z (contains_from (suc dim) n plans place plan mother label daughter (let v : suc place < suc (length plans) = w in omega arith) i g m l d differ))

pub place_is : (parts : Parts) (e : Edge) → IsPlace parts e → Contains (places parts) e
place_is parts e h =
    let z : 0 + e.dim.0 ≡ e.dim.0 = omega arith in
    subst (λ k. Contains (places parts) (edge k e.mother.0 e.label.0 e.daughter.0)) z (contains_from 0 (nodes parts) parts.dims e.dim.0 h.plan e.mother.0 e.label.0 e.daughter.0 (dim_within parts e h) (plan_read parts e h h.plan) h.graph h.mother h.label h.daughter h.differ)

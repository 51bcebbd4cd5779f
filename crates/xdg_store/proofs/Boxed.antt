-- Boxes of a shape: the full one, and one from which a value was taken.
use Rattle.std.proofs.Common.{◌≡◌, ◌≢◌, ℕ, ◌<◌, ◌≤◌, inl, inr, Bool, true, false, List, [], ◌∷◌, ◌++◌, length, get_or, set, map, replicate, ap, ap₂, sym, ◌∙◌, arith, subst, zero, suc, refl}
use Rattle.std.specs.Prelude.{sum}
use Rattle.std.specs.List.{AllByRecursion, flat_map}
use Rattle.std.proofs.lemmas.Bool.{cases_eq}
use Rattle.std.proofs.lemmas.List.{length-map, length-replicate, length-set}
use Rattle.std.proofs.lemmas.List.Elements.{recursion_from_All}
use Rattle.std.proofs.lemmas.List.Sums.{sum_by-cons}
use Rattle.xdg_problem.specs.declared.analysis.Edge.{Edge}
use Rattle.xdg_problem.specs.declared.parts.AttrPlan.{AttrPlan}
use Rattle.xdg_problem.specs.declared.parts.DimPlan.{DimPlan}
use Rattle.xdg_problem.specs.declared.parts.Parts.{Parts}
use Rattle.xdg_problem.specs.Boxes.{Has, IsBox, full, without}
use Rattle.xdg_problem.specs.Places.{below, nodes, places}
use Rattle.xdg_problem.specs.Problems.{AreCandidates, IsAttr, IsDim, IsProblem}
use Rattle.xdg_problem.specs.Vectors.{attr_sizes, shape}
use Rattle.xdg_problem.proofs.Ordered.{each_flat_map}
use Rattle.xdg_store.specs.States.{remaining}
use Rattle.xdg_facts.specs.Flags.{count_set}
use Rattle.xdg_store.proofs.Counting.{Filled}
use Rattle.xdg_problem.proofs.BoxWithout.{without_has}
use Rattle.xdg_facts.proofs.Each.{each_append, each_map, each_of_all, each_weaker}
use Rattle.xdg_facts.proofs.Lists.{first_of_full}

-- ---- a value is taken that isn't the last of its decision

pub filled_taken : (box : List (List Bool)) (d v x : ℕ) → Filled box → Has box d x → x ≢ v → Filled (without box d v)
filled_taken box d v x f h n e l =
    let s = length-set box d (set (get_or box d []) v false) in
    elim (cases_eq e d) [
      | inl same ↦ (x, (without_has box d v e x).1 (subst (λ i. Has box i x) (sym same) h, λ at. n))
      | inr other ↦ (let g = f e (omega (arith, l, s)) in (g.0, (without_has box d v e g.0).1 (g.1, λ same. absurd (other same))))
    ]

-- ---- how many values the decisions have at first

abbrev pub IsSize : ℕ → Type 0
IsSize size = (1 ≤ size) × (size ≤ 1024)

candidate_sizes : (parts : Parts) → IsProblem parts → AllByRecursion IsSize (map length parts.candidates)
candidate_sizes parts p = each_map IsSize length parts.candidates (each_weaker AreCandidates (λ c. IsSize (length c)) parts.candidates (λ c a. (let s = a.some in omega (arith, s), a.most)) (recursion_from_All AreCandidates parts.candidates p.candidates))

value_sizes : (n : ℕ) (plans : List DimPlan) → AllByRecursion IsDim plans → AllByRecursion IsSize (attr_sizes n plans)
value_sizes n [] a = tt
value_sizes n (plan ∷ plans) a = each_append IsSize (flat_map (λ node. map (λ (attr : AttrPlan). length attr.values) plan.attrs) (below n)) (attr_sizes n plans)
    (each_flat_map IsSize (λ node. map (λ (attr : AttrPlan). length attr.values) plan.attrs) 0 n (λ i l m.
    each_map IsSize (λ (attr : AttrPlan). length attr.values) plan.attrs (each_weaker IsAttr (λ attr. IsSize (length attr.values)) plan.attrs (λ attr b. (let s = b.some in omega (arith, s), b.most)) (recursion_from_All IsAttr plan.attrs a.0.attrs))))
    (value_sizes n plans a.1)

pub sizes_fit : (parts : Parts) → IsProblem parts → AllByRecursion IsSize (shape parts)
sizes_fit parts p = each_append IsSize (map length parts.candidates) (attr_sizes (nodes parts) parts.dims ++ map (λ place. 2) (places parts)) (candidate_sizes parts p)
    (each_append IsSize (attr_sizes (nodes parts) parts.dims) (map (λ place. 2) (places parts)) (value_sizes (nodes parts) parts.dims (recursion_from_All IsDim parts.dims p.dims))
    (each_map IsSize (λ (place : Edge). 2) (places parts) (each_of_all (λ (place : Edge). IsSize 2) (places parts) (λ place. (omega arith, omega arith)))))

-- ---- the full box

values_full : (size : ℕ) → count_set (replicate size true) ≡ size
values_full zero = refl
values_full (suc size) = let e = values_full size in omega (arith, e)

pub remaining_full : (sizes : List ℕ) → remaining (full sizes) ≡ sum sizes
remaining_full [] = refl
remaining_full (size ∷ sizes) =
    let a = values_full size in
    let b = remaining_full sizes in
    let c = sum_by-cons (λ x. x) size sizes in
    omega (arith, a, b, c)

full_sizes : (sizes : List ℕ) → map length (full sizes) ≡ sizes
full_sizes [] = refl
full_sizes (size ∷ sizes) = ap₂ (λ x xs. x ∷ xs) (length-replicate size true) (full_sizes sizes)

full_filled : (sizes : List ℕ) → AllByRecursion IsSize sizes → (d : ℕ) → d < length sizes → (v : ℕ) × Has (full sizes) d v
full_filled [] a d l = absurd (omega (arith, l))
full_filled (size ∷ sizes) a zero l = (0, first_of_full size a.0.0)
full_filled (size ∷ sizes) a (suc d) l = full_filled sizes a.1 d (omega (arith, l))

pub full_is_box : (parts : Parts) → IsProblem parts → IsBox (shape parts) (full (shape parts))
full_is_box parts p = record { sizes = full_sizes (shape parts); filled = full_filled (shape parts) (sizes_fit parts p) }

-- ---- a box and its shape

pub length_box : (sizes : List ℕ) (box : List (List Bool)) → IsBox sizes box → length box ≡ length sizes
length_box sizes box is = sym (length-map box length) ∙ ap length is.sizes

pub box_filled : (sizes : List ℕ) (box : List (List Bool)) → IsBox sizes box → Filled box
box_filled sizes box is d l = let e = length_box sizes box is in is.filled d (omega (arith, l, e))

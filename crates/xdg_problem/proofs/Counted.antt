-- How many decisions a sentence has, dimension by dimension.
use Rattle.std.proofs.Common.{◌≡◌, ℕ, ◌+◌, ◌-◌, ◌*◌, List, [], ◌∷◌, length, refl, ap, ◌∙◌, arith, suc, Bool, true, false, cond, map, length-append}
use Rattle.std.specs.List.{sum_by, flat_map}
use Rattle.std.proofs.lemmas.List.{length-map}
use Rattle.std.proofs.lemmas.List.Sums.{sum_by-cons}
use Rattle.xdg_problem.specs.declared.parts.AttrPlan.{AttrPlan}
use Rattle.xdg_problem.specs.declared.parts.DimPlan.{DimPlan}
use Rattle.xdg_problem.specs.declared.parts.Parts.{Parts}
use Rattle.xdg_problem.specs.Places.{below, nodes, places_of, places_from}
use Rattle.xdg_problem.specs.Vectors.{attr_sizes, shape}
use Rattle.xdg_problem.specs.Counts.{dim_decisions}
use Rattle.xdg_problem.proofs.PlaceCount.{length_flat_map, length_places_of}
use Rattle.xdg_problem.proofs.VectorFacts.{length_shape}

length_plan : (b : Bool) (dim n labels : ℕ) → length (cond b (places_of dim n labels) []) ≡ cond b (n * (labels * (n - 1))) 0
length_plan true dim n labels = length_places_of dim n labels
length_plan false dim n labels = refl

pub length_attrs_of : (n : ℕ) (plan : DimPlan) → length (flat_map (λ (node : ℕ). map (λ (attr : AttrPlan). length attr.values) plan.attrs) (below n)) ≡ n * length plan.attrs
length_attrs_of n plan = length_flat_map (λ node. map (λ (attr : AttrPlan). length attr.values) plan.attrs) 0 n (length plan.attrs) (λ i l m. length-map plan.attrs (λ (attr : AttrPlan). length attr.values))

length_dims : (dim n : ℕ) (plans : List DimPlan) → length (attr_sizes n plans) + length (places_from dim n plans) ≡ sum_by (dim_decisions n) plans
length_dims dim n [] = refl
length_dims dim n (plan ∷ plans) =
    let a = length-append (flat_map (λ (node : ℕ). map (λ (attr : AttrPlan). length attr.values) plan.attrs) (below n)) (attr_sizes n plans) in
    let b = length-append (cond plan.graph (places_of dim n (length plan.labels)) []) (places_from (suc dim) n plans) in
    let c = length_attrs_of n plan in
    let d = length_plan plan.graph dim n (length plan.labels) in
    let e = length_dims (suc dim) n plans in
    let f = sum_by-cons (dim_decisions n) plan plans in
    omega (arith, a, b, c, d, e, f)

pub count_shape : (parts : Parts) → length (shape parts) ≡ length parts.candidates + sum_by (dim_decisions (nodes parts)) parts.dims
count_shape parts = length_shape parts ∙ ap (λ i. length parts.candidates + i) (length_dims 0 (nodes parts) parts.dims)

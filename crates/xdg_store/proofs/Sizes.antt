-- How many bits each decision has.
use Rattle.std.proofs.Common.{◌≡◌, ℕ, ◌+◌, List, [], ◌∷◌, ◌++◌, length, map, ap, ap₂, ◌∙◌, zero, suc, refl}
use Rattle.std.specs.List.{flat_map}
use Rattle.std.proofs.lemmas.List.{map-append}
use Rattle.xdg_base.specs.declared.ids.EntryNo.{EntryNo}
use Rattle.xdg_problem.specs.declared.analysis.Edge.{Edge}
use Rattle.xdg_problem.specs.declared.parts.AttrPlan.{AttrPlan}
use Rattle.xdg_problem.specs.declared.parts.DimPlan.{DimPlan}
use Rattle.xdg_problem.specs.declared.parts.Parts.{Parts}
use Rattle.xdg_problem.specs.Places.{numbers_from, below, nodes, places}
use Rattle.xdg_problem.specs.Vectors.{attr_sizes, shape}
use Rattle.xdg_problem.proofs.Ordered.{numbers_length}
use Rattle.xdg_store.specs.Layout.{entry_row, block, entry_bits, row_bits, attr_bits, pair_bits, bits_of}

entry_sizes : (first : ℕ) (cs : List (List EntryNo)) → map length (entry_bits first cs) ≡ map length cs
entry_sizes first [] = refl
entry_sizes first (c ∷ cs) = ap₂ (λ x xs. x ∷ xs) (numbers_length (entry_row first) (length c)) (entry_sizes (suc first) cs)

pub row_sizes : (start : ℕ) (attrs : List AttrPlan) → map length (row_bits start attrs) ≡ map (λ attr. length attr.values) attrs
row_sizes start [] = refl
row_sizes start (attr ∷ attrs) = ap₂ (λ x xs. x ∷ xs) (numbers_length start (length attr.values)) (row_sizes (start + 1024) attrs)

flat_sizes : (f : ℕ → List (List ℕ)) (g : ℕ → List ℕ) (first count : ℕ) → ((i : ℕ) → map length (f i) ≡ g i) → map length (flat_map f (numbers_from first count)) ≡ flat_map g (numbers_from first count)
flat_sizes f g first zero h = refl
flat_sizes f g first (suc count) h = map-append length (f first) (flat_map f (numbers_from (suc first) count)) ∙ ap₂ (λ xs ys. xs ++ ys) (h first) (flat_sizes f g (suc first) count h)

plan_sizes : (n dim : ℕ) (plan : DimPlan) → map length (flat_map (λ node. row_bits (block n dim node) plan.attrs) (below n)) ≡ flat_map (λ node. map (λ (attr : AttrPlan). length attr.values) plan.attrs) (below n)
plan_sizes n dim plan = flat_sizes (λ node. row_bits (block n dim node) plan.attrs) (λ node. map (λ (attr : AttrPlan). length attr.values) plan.attrs) 0 n (λ node. row_sizes (block n dim node) plan.attrs)

pub attr_lengths : (n dim : ℕ) (plans : List DimPlan) → map length (attr_bits n dim plans) ≡ attr_sizes n plans
attr_lengths n dim [] = refl
attr_lengths n dim (plan ∷ plans) =
    map-append length (flat_map (λ node. row_bits (block n dim node) plan.attrs) (below n)) (attr_bits n (suc dim) plans)
    ∙ ap₂ (λ xs ys. xs ++ ys) (plan_sizes n dim plan) (attr_lengths n (suc dim) plans)

pair_sizes : (n : ℕ) (edges : List Edge) → map length (map (pair_bits n) edges) ≡ map (λ place. 2) edges
pair_sizes n [] = refl
pair_sizes n (e ∷ edges) = ap (λ xs. 2 ∷ xs) (pair_sizes n edges)

-- the box of any words has the problem's shape
pub bits_sizes : (parts : Parts) → map length (bits_of parts) ≡ shape parts
bits_sizes parts =
    let attrs = attr_bits (nodes parts) 0 parts.dims in
    let edges = map (pair_bits (nodes parts)) (places parts) in
    map-append length (entry_bits 0 parts.candidates) (attrs ++ edges)
    ∙ ap₂ (λ xs ys. xs ++ ys) (entry_sizes 0 parts.candidates) (map-append length attrs edges ∙ ap₂ (λ xs ys. xs ++ ys) (attr_lengths (nodes parts) 0 parts.dims) (pair_sizes (nodes parts) (places parts)))

-- The sizes of a box's decisions.
use Rattle.std.proofs.Common.{◌≡◌, ℕ, ◌+◌, ◌<◌, ◌⊎◌, inl, inr, zero, suc, Bool, List, [], ◌∷◌, ◌++◌, length, map, refl, ap, ◌∙◌, arith, subst}
use Rattle.std.specs.Prelude.{Contains, slice_index, slice_index_or}
use Rattle.std.proofs.lemmas.Bool.{false≢true}
use Rattle.std.proofs.lemmas.List.{get_or-append-add, length-map}
use Rattle.xdg_problem.specs.declared.analysis.Edge.{Edge}
use Rattle.xdg_problem.specs.declared.parts.Parts.{Parts}
use Rattle.xdg_problem.specs.Places.{nodes, places}
use Rattle.xdg_problem.specs.Vectors.{attr_sizes, shape}
use Rattle.xdg_problem.specs.Problems.{IsProblem}
use Rattle.xdg_problem.proofs.PlaceFound.{place_found}
use Rattle.xdg_problem.proofs.VectorFacts.{length_shape}
use Rattle.xdg_problem.specs.Boxes.{Has, IsBox, place_in, edge_decision, entry_decision}
use Rattle.xdg_facts.proofs.Lists.{true_within}

-- what remains is a value of its decision
pub within_sizes : (box : List (List Bool)) (d v : ℕ) → Has box d v → v < slice_index_or (map length box) d 0
within_sizes [] d v has = absurd (false≢true has)
within_sizes (row ∷ box) zero v has = true_within row v has
within_sizes (row ∷ box) (suc d) v has = within_sizes box d v has

-- each edge place has two values
twos : (edges : List Edge) (k : ℕ) → k < length edges → slice_index (map (λ (place : Edge). 2) edges) k ≡ 2
twos [] k l = absurd (omega arith)
twos (e ∷ edges) zero l = refl
twos (e ∷ edges) (suc k) l = twos edges k (omega arith)

pub edge_size : (parts : Parts) (e : Edge) → Contains (places parts) e → slice_index (shape parts) (edge_decision parts e) ≡ 2
edge_size parts e c =
    let k : ℕ = place_in (places parts) e in
    let entries : List ℕ = map length parts.candidates in
    let attrs : List ℕ = attr_sizes (nodes parts) parts.dims in
    let edges : List ℕ = map (λ (place : Edge). 2) (places parts) in
    let same : edge_decision parts e ≡ length entries + (length attrs + k) = (let n = length-map parts.candidates length in omega (arith, n)) in
    ap (λ d. slice_index_or (shape parts) d 0) same
    ∙ get_or-append-add entries (attrs ++ edges) (length attrs + k) 0
    ∙ get_or-append-add attrs edges k 0
    ∙ twos (places parts) k (place_found (places parts) e c).0

pub edge_within : (parts : Parts) (e : Edge) → Contains (places parts) e → edge_decision parts e < length (shape parts)
edge_within parts e c = (let long = length_shape parts in let k = (place_found (places parts) e c).0 in omega (arith, long, k))

pub node_within : (parts : Parts) (node : ℕ) → IsProblem parts → node < nodes parts → entry_decision node < length (shape parts)
node_within parts node is l = (let long = length_shape parts in let each = is.candidates_each in omega (arith, long, each))

-- something remains in a box of a problem
pub some_value : (parts : Parts) (box : List (List Bool)) → IsProblem parts → IsBox (shape parts) box → (v : ℕ) × Has box 0 v
some_value parts box problem is = is.filled 0 (node_within parts 0 problem problem.some)

pub attr_place_within : (parts : Parts) (place : ℕ) → place < length (attr_sizes (nodes parts) parts.dims) → length parts.candidates + place < length (shape parts)
attr_place_within parts place l = (let long = length_shape parts in omega (arith, long))

-- the remaining values of an edge place are 0 and 1
pub edge_values : (parts : Parts) (box : List (List Bool)) → IsBox (shape parts) box → (e : Edge) → Contains (places parts) e → (v : ℕ) → Has box (edge_decision parts e) v → v < 2
edge_values parts box is e c v has =
    let l = within_sizes box (edge_decision parts e) v has in
    subst (λ n. v < n) (edge_size parts e c) (subst (λ sizes. v < slice_index_or sizes (edge_decision parts e) 0) is.sizes l)

-- one of the two remains
pub edge_some : (parts : Parts) (box : List (List Bool)) → IsBox (shape parts) box → (e : Edge) → Contains (places parts) e → Has box (edge_decision parts e) 0 ⊎ Has box (edge_decision parts e) 1
edge_some parts box is e c =
    let filled = is.filled (edge_decision parts e) (edge_within parts e c) in
    by filled.0 (edge_values parts box is e c filled.0 filled.1) filled.1 where
      by : (v : ℕ) → v < 2 → Has box (edge_decision parts e) v → Has box (edge_decision parts e) 0 ⊎ Has box (edge_decision parts e) 1
      by zero l has = inl has
      by (suc zero) l has = inr has
      by (suc (suc v)) l has = absurd (omega arith)

-- The places where an edge may stand, in the order in which they are decided.
use Rattle.std.specs.Prelude.{ℕ, zero, suc, ◌==◌, ◌&&◌, Bool, List, [], ◌∷◌, ◌++◌, cond, not, length, map, filter}
use Rattle.std.specs.List.{flat_map}
use Rattle.xdg_problem.specs.declared.analysis.Edge.{Edge}
use Rattle.xdg_problem.specs.declared.parts.DimPlan.{DimPlan}
use Rattle.xdg_problem.specs.declared.parts.Parts.{Parts}

-- the count numbers from the first on
abbrev pub numbers_from : ℕ → ℕ → List ℕ
numbers_from first zero = []
numbers_from first (suc count) = first ∷ numbers_from (suc first) count

-- the numbers below n
abbrev pub below : ℕ → List ℕ
below n = numbers_from 0 n

abbrev pub edge : ℕ → ℕ → ℕ → ℕ → Edge
edge dim mother label daughter =
    record { dim = record { 0 = dim }; mother = record { 0 = mother }; label = record { 0 = label }; daughter = record { 0 = daughter } }

-- two edges are the same where all their numbers are
abbrev pub same_edge : Edge → Edge → Bool
same_edge a b = (a.dim.0 == b.dim.0) && (a.mother.0 == b.mother.0) && (a.label.0 == b.label.0) && (a.daughter.0 == b.daughter.0)

-- the nodes below n but one
abbrev pub others : ℕ → ℕ → List ℕ
others n node = filter (λ other. not (other == node)) (below n)

-- the places of a label out of a mother
abbrev pub places_out : ℕ → ℕ → ℕ → ℕ → List Edge
places_out dim n mother label = map (λ daughter. edge dim mother label daughter) (others n mother)

-- the places of a dimension with n nodes: by mother, label and daughter, which differs from the mother
abbrev pub places_of : ℕ → ℕ → ℕ → List Edge
places_of dim n labels = flat_map (λ mother. flat_map (λ label. places_out dim n mother label) (below labels)) (below n)

-- the places of the dimensions from the one numbered dim on; a dimension without graph has none
abbrev pub places_from : ℕ → ℕ → List DimPlan → List Edge
places_from dim n [] = []
places_from dim n (plan ∷ plans) = cond plan.graph (places_of dim n (length plan.labels)) [] ++ places_from (suc dim) n plans

-- how many nodes a sentence has
abbrev pub nodes : Parts → ℕ
nodes parts = length parts.words

-- all places, by dimension, mother, label and daughter
abbrev pub places : Parts → List Edge
places parts = places_from 0 (nodes parts) parts.dims

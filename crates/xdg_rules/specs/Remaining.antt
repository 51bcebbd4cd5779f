-- What remains in a box: the edges that may be present and those that must be, and the entries. And what the value of an edge says.
use Rattle.std.specs.Prelude.{◌≡◌, ℕ, ◌==◌, ◌&&◌, Bool, false, not, List, [], filter, Contains, slice_index_or}
use Rattle.xdg_problem.specs.declared.analysis.Edge.{Edge}
use Rattle.xdg_problem.specs.declared.parts.Parts.{Parts}
use Rattle.xdg_problem.specs.Boxes.{Has, entry_decision, edge_decision}
use Rattle.xdg_problem.specs.Places.{places}

-- ---- the two graphs of a box

-- whether the value v of the decision d remains
abbrev pub has : List (List Bool) → ℕ → ℕ → Bool
has box d v = slice_index_or (slice_index_or box d []) v false

-- the edges of a dimension that may be present
abbrev pub may_edges : Parts → List (List Bool) → ℕ → List Edge
may_edges parts box dim = filter (λ e. (e.dim.0 == dim) && has box (edge_decision parts e) 0) (places parts)

-- the edges of a dimension that must be present: they may be, and they can't be absent
abbrev pub must_edges : Parts → List (List Bool) → ℕ → List Edge
must_edges parts box dim = filter (λ e. (e.dim.0 == dim) && (has box (edge_decision parts e) 0 && not (has box (edge_decision parts e) 1))) (places parts)

-- ---- what a rule takes

-- an edge place of a dimension
abbrev pub IsPlaceOn : Parts → ℕ → Edge → Type 0
IsPlaceOn parts dim e = Contains (places parts) e × (e.dim.0 ≡ dim)

-- the value v of the decision d says that the edge is present
abbrev pub SaysPresent : Parts → Edge → ℕ → ℕ → Type 0
SaysPresent parts e d v = (d ≡ edge_decision parts e) × (v ≡ 0)

-- the value v of the decision d says that the edge is absent
abbrev pub SaysAbsent : Parts → Edge → ℕ → ℕ → Type 0
SaysAbsent parts e d v = (d ≡ edge_decision parts e) × (v ≡ 1)

-- each entry of a node that remains, by its place among the candidates
abbrev pub EachEntry : List (List Bool) → ℕ → (ℕ → Type 0) → Type 0
EachEntry box node P = (c : ℕ) → Has box (entry_decision node) c → P c

-- An analysis as the numbers that are decided, one after another, and back.
use Rattle.std.specs.Prelude.{ℕ, suc, ◌+◌, ◌==◌, Bool, List, [], ◌∷◌, ◌++◌, cond, length, map, take, drop, slice_index_or}
use Rattle.std.specs.List.{flat_map, list_any}
use Rattle.xdg_base.specs.declared.ids.EntryNo.{EntryNo}
use Rattle.xdg_problem.specs.declared.analysis.Edge.{Edge}
use Rattle.xdg_problem.specs.declared.analysis.Analysis.{Analysis}
use Rattle.xdg_problem.specs.declared.parts.DimPlan.{DimPlan}
use Rattle.xdg_problem.specs.declared.parts.Parts.{Parts}
use Rattle.xdg_problem.specs.Places.{below, same_edge, nodes, places}

-- how many values each attribute has, by dimension, node and attribute
abbrev pub attr_sizes : ℕ → List DimPlan → List ℕ
attr_sizes n [] = []
attr_sizes n (plan ∷ plans) = flat_map (λ node. map (λ attr. length attr.values) plan.attrs) (below n) ++ attr_sizes n plans

-- how many values each decision has: first the entries, then the attributes, then the edge places
abbrev pub shape : Parts → List ℕ
shape parts = map length parts.candidates ++ (attr_sizes (nodes parts) parts.dims ++ map (λ place. 2) (places parts))

-- how many decisions come before those of the edge places
abbrev pub first_place : Parts → ℕ
first_place parts = length parts.candidates + length (attr_sizes (nodes parts) parts.dims)

-- the place of an entry among the candidates of its node
abbrev pub place_among : List EntryNo → EntryNo → ℕ
place_among [] entry = 0
place_among (candidate ∷ candidates) entry = cond (candidate.0 == entry.0) 0 (suc (place_among candidates entry))

abbrev pub entry_places : List (List EntryNo) → List EntryNo → List ℕ
entry_places [] entries = []
entry_places (candidates ∷ more) [] = []
entry_places (candidates ∷ more) (entry ∷ entries) = place_among candidates entry ∷ entry_places more entries

-- an edge is among the edges
abbrev pub has_edge : List Edge → Edge → Bool
has_edge edges place = list_any (same_edge place) edges

-- 0 for an edge that is present, 1 for one that is absent
abbrev pub presence : List Edge → Edge → ℕ
presence edges place = cond (has_edge edges place) 0 1

-- the decisions of an analysis, as numbers
abbrev pub vector : Parts → Analysis → List ℕ
vector parts analysis = entry_places parts.candidates analysis.entries ++ (analysis.attrs ++ map (presence analysis.edges) (places parts))

-- the entries at these places among the candidates, node by node
abbrev pub entries_at : List (List EntryNo) → List ℕ → List EntryNo
entries_at [] numbers = []
entries_at (candidates ∷ more) [] = []
entries_at (candidates ∷ more) (number ∷ numbers) = slice_index_or candidates number (record { 0 = 0 }) ∷ entries_at more numbers

-- the places of which the number says that their edge is present
abbrev pub chosen : List Edge → List ℕ → List Edge
chosen [] numbers = []
chosen (place ∷ more) [] = []
chosen (place ∷ more) (number ∷ numbers) = cond (number == 0) (place ∷ chosen more numbers) (chosen more numbers)

-- the edges that a list of decisions, whole or not, says are present
abbrev pub edges_in : Parts → List ℕ → List Edge
edges_in parts numbers = chosen (places parts) (drop (first_place parts) numbers)

-- the analysis that a vector stands for
abbrev pub analysis_of : Parts → List ℕ → Analysis
analysis_of parts numbers = record {
  entries = entries_at parts.candidates numbers;
  attrs = take (length (attr_sizes (nodes parts) parts.dims)) (drop (length parts.candidates) numbers);
  edges = edges_in parts numbers;
}

-- A vector that is held, and the analysis that it stands for.
use Rattle.std.specs.Prelude.{◌≡◌, ℕ, ◌≤◌, Bool, false, List, [], ◌∷◌, cond, drop, length}
use Rattle.xdg_base.specs.declared.ids.EntryNo.{EntryNo}
use Rattle.xdg_problem.specs.declared.analysis.Edge.{Edge}
use Rattle.xdg_problem.specs.declared.parts.Parts.{Parts}
use Rattle.xdg_problem.specs.Places.{places, same_edge}
use Rattle.xdg_problem.specs.Vectors.{shape, first_place, entries_at, edges_in}

-- the entries and edges are those of the vector, and there is room for those of each other one
pub record HasAnalysis (parts : Parts) (first : ℕ) (numbers : List ℕ) (entries : List EntryNo) (edges : List Edge) (number_room entry_room edge_room : ℕ) : Type
    0 where
  pub first_is : first ≡ first_place parts
  pub entries_are : entries ≡ entries_at parts.candidates numbers
  pub edges_are : edges ≡ edges_in parts numbers
  pub for_numbers : length (shape parts) ≤ number_room
  pub for_entries : length parts.candidates ≤ entry_room
  pub for_edges : length (places parts) ≤ edge_room

-- the first of some edges stands at a place
abbrev pub stands_first : Edge → List Edge → Bool
stands_first place [] = false
stands_first place (edge ∷ edges) = same_edge place edge

-- the numbers of places, 0 where the next edge stands there and 1 elsewhere; the edges go in the order of the places
abbrev pub marks : List Edge → List Edge → List ℕ
marks [] edges = []
marks (place ∷ more) edges = cond (stands_first place edges) (0 ∷ marks more (drop 1 edges)) (1 ∷ marks more edges)

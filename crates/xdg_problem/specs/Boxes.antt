-- Boxes: which values of each decision remain.
use Rattle.std.specs.Prelude.{◌≡◌, ◌↔◌, ℕ, suc, ◌<◌, ◌+◌, Bool, true, false, cond, List, [], ◌∷◌, length, map, replicate, slice_index_or, slice_set}
use Rattle.xdg_problem.specs.declared.analysis.Edge.{Edge}
use Rattle.xdg_problem.specs.declared.parts.Parts.{Parts}
use Rattle.xdg_problem.specs.Places.{same_edge, places}
use Rattle.xdg_problem.specs.Vectors.{first_place}
use Rattle.xdg_problem.specs.Arguments.{attr_place}

-- the value v of the decision d remains
abbrev pub Has : List (List Bool) → ℕ → ℕ → Type 0
Has box d v = slice_index_or (slice_index_or box d []) v false ≡ true

-- a box of a shape: it has a flag for each value of each decision, and a value of each decision remains
pub record IsBox (shape : List ℕ) (box : List (List Bool)) : Type 0 where
  pub sizes : map length box ≡ shape
  pub filled : (d : ℕ) → d < length shape → (v : ℕ) × Has box d v

-- the box of all values
abbrev pub full : List ℕ → List (List Bool)
full shape = map (λ size. replicate size true) shape

-- the box without the value v of the decision d
abbrev pub without : List (List Bool) → ℕ → ℕ → List (List Bool)
without box d v = slice_set box d (slice_set (slice_index_or box d []) v false)

-- what remains in the small box remains in the large one
abbrev pub LiesIn : List (List Bool) → List (List Bool) → Type 0
LiesIn small large = (d v : ℕ) → Has small d v → Has large d v

-- no value but v remains of the decision d
abbrev pub IsOnly : List (List Bool) → ℕ → ℕ → Type 0
IsOnly box d v = (x : ℕ) → Has box d x → x ≡ v

-- no two values of one decision remain
abbrev pub IsSingle : List (List Bool) → Type 0
IsSingle box = (d v x : ℕ) → Has box d v → Has box d x → x ≡ v

-- a whole vector lies in the box: its number for each decision is a value that remains
abbrev pub IsIn : List (List Bool) → List ℕ → Type 0
IsIn [] [] = Unit {0}
IsIn [] (x ∷ numbers) = ⊥
IsIn (row ∷ box) [] = ⊥
IsIn (row ∷ box) (x ∷ numbers) = (slice_index_or row x false ≡ true) × IsIn box numbers

-- the box agrees with a prefix: what remains of each decision in the prefix is exactly its number there
abbrev pub Agrees : List (List Bool) → List ℕ → Type 0
Agrees box [] = Unit {0}
Agrees [] (x ∷ prefix) = ⊥
Agrees (row ∷ box) (x ∷ prefix) = ((v : ℕ) → (slice_index_or row v false ≡ true) ↔ (v ≡ x)) × Agrees box prefix

-- the number of the decision of a node's entry
abbrev pub entry_decision : ℕ → ℕ
entry_decision node = node

-- the number of the decision of a node's attribute on a dimension
abbrev pub attr_decision : Parts → ℕ → ℕ → ℕ → ℕ
attr_decision parts dim node attr = length parts.candidates + attr_place parts dim node attr

-- where an edge first stands among others, and behind all of them where it doesn't
abbrev pub place_in : List Edge → Edge → ℕ
place_in [] e = 0
place_in (place ∷ more) e = cond (same_edge place e) 0 (suc (place_in more e))

-- the number of the decision of an edge place
abbrev pub edge_decision : Parts → Edge → ℕ
edge_decision parts e = first_place parts + place_in (places parts) e

-- the edge may be present: the value 0 of its place remains
abbrev pub May : Parts → List (List Bool) → Edge → Type 0
May parts box e = Has box (edge_decision parts e) 0

-- the edge must be present: the value 1 of its place, absent, remains no more
abbrev pub Must : Parts → List (List Bool) → Edge → Type 0
Must parts box e = Has box (edge_decision parts e) 1 → ⊥

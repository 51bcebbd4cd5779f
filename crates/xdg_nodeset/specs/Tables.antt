-- Tables of sets of nodes.
use Rattle.std.specs.Prelude.{◌≡◌, ℕ, ◌<◌, true, List, [], ◌∷◌, slice_index_or}
use Rattle.xdg_facts.specs.Rises.{has}

-- a node stands in the set that a table has for a node
abbrev pub InTable : List (List ℕ) → ℕ → ℕ → Type 0
InTable table from to = has (slice_index_or table from []) to ≡ true

-- a node stands in the set that a table has for a node and a label
abbrev pub InBy : List (List (List ℕ)) → ℕ → ℕ → ℕ → Type 0
InBy table from label to = has (slice_index_or (slice_index_or table from []) label []) to ≡ true

-- a table leads from a node to another through some nodes
abbrev pub Along : List (List ℕ) → ℕ → List ℕ → ℕ → Type 0
Along table from [] to = InTable table from to
Along table from (node ∷ nodes) to = InTable table from node × Along table node nodes to

-- a table has what another one leads to, through the first nodes
pub record IsClosure (size : ℕ) (old new : List (List ℕ)) : Type 0 where
  pub contains : (from to : ℕ) → InTable old from to → InTable new from to
  pub along : (from to : ℕ) → InTable new from to → (nodes : List ℕ) × Along old from nodes to
  pub through : (from middle to : ℕ) → middle < size → InTable new from middle → InTable new middle to → InTable new from to

-- two sets have a node in common
abbrev pub Meet : List ℕ → List ℕ → Type 0
Meet a b = (x : ℕ) × (has a x ≡ true) × (has b x ≡ true)

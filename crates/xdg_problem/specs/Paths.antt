-- Edges, paths along edges, and which nodes stand above which.
use Rattle.std.specs.Prelude.{◌≡◌, ℕ, ◌<◌, ◌==◌, ◌&&◌, List, [], ◌∷◌, ◌++◌, not, length, filter, Contains, All, count_by}
use Rattle.std.specs.List.{Any, list_any}
use Rattle.xdg_problem.specs.declared.analysis.Edge.{Edge}
use Rattle.xdg_problem.specs.Places.{below}

-- the edges of a dimension
abbrev pub edges_on : ℕ → List Edge → List Edge
edges_on dim edges = filter (λ e. e.dim.0 == dim) edges

-- the number of edges with a label into a node
abbrev pub edges_into : List Edge → ℕ → ℕ → ℕ
edges_into edges node label = count_by (λ e. (e.daughter.0 == node) && (e.label.0 == label)) edges

-- the number of edges with a label out of a node
abbrev pub edges_out_of : List Edge → ℕ → ℕ → ℕ
edges_out_of edges node label = count_by (λ e. (e.mother.0 == node) && (e.label.0 == label)) edges

-- the number of edges that join u to v; on one dimension each has another label
abbrev pub edges_joining : List Edge → ℕ → ℕ → ℕ
edges_joining edges u v = count_by (λ e. (e.mother.0 == u) && (e.daughter.0 == v)) edges

-- v is a daughter of u: an edge with some label leads from u to v
abbrev pub IsDaughter : List Edge → ℕ → ℕ → Type 0
IsDaughter edges u v = Any (λ e. (e.mother.0 ≡ u) × (e.daughter.0 ≡ v)) edges

-- v is a daughter of u with label l
abbrev pub IsDaughterBy : List Edge → ℕ → ℕ → ℕ → Type 0
IsDaughterBy edges u l v = Any (λ e. (e.mother.0 ≡ u) × (e.label.0 ≡ l) × (e.daughter.0 ≡ v)) edges

-- v is a daughter of u with one of the labels
abbrev pub IsDaughterByAny : List Edge → ℕ → List ℕ → ℕ → Type 0
IsDaughterByAny edges u labels v = Any (λ e. (e.mother.0 ≡ u) × Contains labels e.label.0 × (e.daughter.0 ≡ v)) edges

-- an edge with one of the labels leads into v
abbrev pub IsEnteredByAny : List Edge → List ℕ → ℕ → Type 0
IsEnteredByAny edges labels v = Any (λ e. Contains labels e.label.0 × (e.daughter.0 ≡ v)) edges

-- some node has u as a daughter, and v as a daughter with one of the labels
abbrev pub AreSistersByAny : List Edge → ℕ → List ℕ → ℕ → Type 0
AreSistersByAny edges u labels v = Any (λ e. (e.daughter.0 ≡ u) × IsDaughterByAny edges e.mother.0 labels v) edges

-- the first edge leaves u, each enters the node that the next leaves, and the last enters v
abbrev pub Leads : ℕ → List Edge → ℕ → Type 0
Leads u [] v = u ≡ v
Leads u (e ∷ path) v = (e.mother.0 ≡ u) × Leads e.daughter.0 path v

-- u is above v: a path of one or more of the edges leads from u to v
pub record Above (edges : List Edge) (u v : ℕ) : Type 0 where
  pub path : List Edge
  pub some : 0 < length path
  pub along : All (Contains edges) path
  pub leads : Leads u path v

-- a path of one or more of the edges leads from u to v, and the label of its first edge is one of the labels
pub record AboveByFirst (edges : List Edge) (u : ℕ) (labels : List ℕ) (v : ℕ) : Type 0 where
  pub first : Edge
  pub rest : List Edge
  pub label : Contains labels first.label.0
  pub along : All (Contains edges) (first ∷ rest)
  pub leads : Leads u (first ∷ rest) v

-- a path of one or more of the edges leads from u to v, and the label of its last edge is one of the labels
pub record AboveByLast (edges : List Edge) (u : ℕ) (labels : List ℕ) (v : ℕ) : Type 0 where
  pub front : List Edge
  pub last : Edge
  pub label : Contains labels last.label.0
  pub along : All (Contains edges) (front ++ last ∷ [])
  pub leads : Leads u (front ++ last ∷ []) v

-- no node is above itself
abbrev pub NoCycle : List Edge → Type 0
NoCycle edges = (v : ℕ) → Above edges v v → ⊥

-- how many edges lead into a node
abbrev pub mothers : List Edge → ℕ → ℕ
mothers edges v = count_by (λ e. e.daughter.0 == v) edges

-- the nodes without mother
abbrev pub roots : ℕ → List Edge → List ℕ
roots n edges = filter (λ v. not (list_any (λ e. e.daughter.0 == v) edges)) (below n)

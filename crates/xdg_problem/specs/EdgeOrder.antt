-- The order in which edges are decided, and the order of lists of edges that follows from it.
use Rattle.std.specs.Prelude.{◌≡◌, ◌⊎◌, ℕ, ◌<◌, ◌+◌, List, [], ◌∷◌, length, slice_index_or}
use Rattle.xdg_problem.specs.declared.analysis.Edge.{Edge}

-- a relation on edges that is a strict total order
pub record IsEdgeOrder (R : Edge → Edge → Type 0) : Type 0 where
  pub irreflexive : (a : Edge) → R a a → ⊥
  pub transitive : (a b c : Edge) → R a b → R b c → R a c
  pub total : (a b : Edge) → R a b ⊎ ((a ≡ b) ⊎ R b a)

-- One list of edges comes before another: where they first differ it has the edge that R puts first, or it goes on
-- where the other ends. For an edge that is present comes before one that is absent.
abbrev pub EdgesLess : (Edge → Edge → Type 0) → List Edge → List Edge → Type 0
EdgesLess R [] others = ⊥
EdgesLess R (e ∷ edges) [] = Unit {0}
EdgesLess R (e ∷ edges) (f ∷ others) = R e f ⊎ ((e ≡ f) × EdgesLess R edges others)

-- the edge at a place is put before the next, where there is a next
abbrev pub RisesAt : (Edge → Edge → Type 0) → List Edge → ℕ → Type 0
RisesAt R edges at = (d : Edge) → at + 1 < length edges → R (slice_index_or edges at d) (slice_index_or edges (at + 1) d)

-- Edges among the first nodes.
use Rattle.std.specs.Prelude.{ℕ, ◌<◌, List, All}
use Rattle.xdg_problem.specs.declared.analysis.Edge.{Edge}

-- the edges are between the first n nodes, and have labels below 32
abbrev pub AreWithin : ℕ → List Edge → Type 0
AreWithin n edges = All (λ e. (e.mother.0 < n) × (e.label.0 < 32) × (e.daughter.0 < n)) edges

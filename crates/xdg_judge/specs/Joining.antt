-- How an edge joins two nodes.
use Rattle.std.specs.Prelude.{◌≡◌, ℕ, ◌⊎◌, true, List, [], slice_index_or, Contains}
use Rattle.std.specs.List.{Any}
use Rattle.xdg_problem.specs.declared.analysis.Edge.{Edge}
use Rattle.xdg_problem.specs.Paths.{Above, IsDaughter}
use Rattle.xdg_judge.specs.declared.links.Links.{Links}
use Rattle.xdg_nodeset.specs.Tables.{InTable}
use Rattle.xdg_judge.specs.declared.paths.Way.{Way}
use Rattle.xdg_judge.specs.declared.paths.Way.TheVariants as ways
use Rattle.xdg_facts.specs.Rises.{has}

-- an edge joins u to v in a way
abbrev pub Joins : Way → List Edge → ℕ → ℕ → Edge → Type 0
-- it leads into v
Joins ways.Into edges u v e = e.daughter.0 ≡ v
-- it leads from u to v
Joins ways.Straight edges u v e = (e.mother.0 ≡ u) × (e.daughter.0 ≡ v)
-- it leads from u to v or to a node above v
Joins ways.First edges u v e = (e.mother.0 ≡ u) × ((e.daughter.0 ≡ v) ⊎ Above edges e.daughter.0 v)
-- it leads from u, or from a node below u, to v
Joins ways.Last edges u v e = ((e.mother.0 ≡ u) ⊎ Above edges u e.mother.0) × (e.daughter.0 ≡ v)
-- it leads from a mother of u to v
Joins ways.Sister edges u v e = IsDaughter edges e.mother.0 u × (e.daughter.0 ≡ v)

-- some edge with one of the labels joins u to v in a way
abbrev pub IsJoined : Way → List Edge → List ℕ → ℕ → ℕ → Type 0
IsJoined way edges labels u v = Any (λ e. Contains labels e.label.0 × Joins way edges u v e) edges

-- a node at which an edge that joins u to v in a way may have its end that is neither v, where it leads into v, nor u
abbrev pub IsEnd : Way → Links → ℕ → ℕ → ℕ → Type 0
IsEnd ways.Into links u v x = InTable links.up.next v x
IsEnd ways.Straight links u v x = v ≡ x
IsEnd ways.First links u v x = InTable links.up.far v x ⊎ (v ≡ x)
IsEnd ways.Last links u v x = InTable links.down.far u x ⊎ (u ≡ x)
IsEnd ways.Sister links u v x = InTable links.up.next u x

-- the sets of the other ends, by labels
abbrev pub sets_for : Way → Links → ℕ → ℕ → List (List ℕ)
sets_for ways.Into links u v = slice_index_or links.up.by_label v []
sets_for ways.Straight links u v = slice_index_or links.down.by_label u []
sets_for ways.First links u v = slice_index_or links.down.by_label u []
sets_for ways.Last links u v = slice_index_or links.up.by_label v []
sets_for ways.Sister links u v = slice_index_or links.up.by_label v []

-- by the sets, some edge with one of the labels joins u to v in a way
abbrev pub IsLed : Way → Links → List ℕ → ℕ → ℕ → Type 0
IsLed way links labels u v = Any (λ label. (x : ℕ) × (has (slice_index_or (sets_for way links u v) label []) x ≡ true) × IsEnd way links u v x) labels

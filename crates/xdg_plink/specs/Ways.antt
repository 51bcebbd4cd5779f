-- How edges of the second dimension link a daughter v of u on the first dimension to u.
use Rattle.std.specs.Prelude.{◌≡◌, ℕ, ◌⊎◌, List}
use Rattle.std.specs.List.{Any}
use Rattle.xdg_problem.specs.declared.analysis.Edge.{Edge}
use Rattle.xdg_problem.specs.declared.parts.Linking.{Linking}
use Rattle.xdg_problem.specs.declared.parts.Linking.TheVariants as linkings
use Rattle.xdg_problem.specs.declared.parts.Principle.{Principle}
use Rattle.xdg_problem.specs.Principles.{linking_of, way_in}
use Rattle.xdg_problem.specs.Paths.{Above, IsDaughter, IsDaughterBy}
use Rattle.xdg_nodeset.specs.Tables.{InTable}

-- how a principle links; one that doesn't is taken for one that asks for no table
abbrev pub way_of : Principle → Linking
way_of principle = way_in (linking_of principle)

-- an edge with a label stands for the link of v to u, and x is its other end
abbrev pub Stands : Linking → List Edge → ℕ → ℕ → ℕ → ℕ → Type 0
Stands linkings.End edges u v label x = IsDaughterBy edges x label v
Stands linkings.Daughter edges u v label x = IsDaughterBy edges u label x
Stands linkings.Mother edges u v label x = IsDaughterBy edges v label x
Stands linkings.BelowStart edges u v label x = IsDaughterBy edges u label x
Stands linkings.AboveStart edges u v label x = IsDaughterBy edges v label x
Stands linkings.Sisters edges u v label x = IsDaughterBy edges x label v

-- which other ends link v to u, by a table
abbrev pub IsEnd : Linking → List (List ℕ) → ℕ → ℕ → ℕ → Type 0
IsEnd linkings.End table u v x = Unit {0}
IsEnd linkings.Daughter table u v x = v ≡ x
IsEnd linkings.Mother table u v x = u ≡ x
IsEnd linkings.BelowStart table u v x = InTable table v x ⊎ (v ≡ x)
IsEnd linkings.AboveStart table u v x = InTable table u x ⊎ (u ≡ x)
IsEnd linkings.Sisters table u v x = InTable table u x

-- by a table, an edge with one of the labels links v to u
abbrev pub IsLed : Linking → List Edge → List (List ℕ) → List ℕ → ℕ → ℕ → Type 0
IsLed way edges table labels u v = Any (λ label. (x : ℕ) × Stands way edges u v label x × IsEnd way table u v x) labels

-- the table has at least the ends that edges allow
abbrev pub Covers : Linking → List Edge → List (List ℕ) → Type 0
Covers linkings.BelowStart edges table = (from to : ℕ) → Above edges to from → InTable table from to
Covers linkings.AboveStart edges table = (from to : ℕ) → Above edges to from → InTable table from to
Covers linkings.Sisters edges table = (from to : ℕ) → IsDaughter edges to from → InTable table from to
Covers way edges table = Unit {0}

-- the table has at most those
abbrev pub Keeps : Linking → List Edge → List (List ℕ) → Type 0
Keeps linkings.BelowStart edges table = (from to : ℕ) → InTable table from to → Above edges to from
Keeps linkings.AboveStart edges table = (from to : ℕ) → InTable table from to → Above edges to from
Keeps linkings.Sisters edges table = (from to : ℕ) → InTable table from to → IsDaughter edges to from
Keeps way edges table = Unit {0}

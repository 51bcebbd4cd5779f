-- Which analyses belong to a problem.
use Rattle.std.specs.Prelude.{◌≡◌, ◌≢◌, ◌<◌, ◌⊎◌, List, [], ◌∷◌, length, Contains, All, true, slice_get, Some}
use Rattle.xdg_base.specs.declared.ids.EntryNo.{EntryNo}
use Rattle.xdg_facts.specs.Fits.{Fits}
use Rattle.xdg_problem.specs.declared.analysis.Edge.{Edge}
use Rattle.xdg_problem.specs.declared.analysis.Analysis.{Analysis}
use Rattle.xdg_problem.specs.declared.parts.DimPlan.{DimPlan}
use Rattle.xdg_problem.specs.declared.parts.Parts.{Parts}
use Rattle.xdg_problem.specs.Places.{nodes}
use Rattle.xdg_problem.specs.Vectors.{attr_sizes}

-- each node has one of its candidates
abbrev pub HasCandidates : List (List EntryNo) → List EntryNo → Type 0
HasCandidates [] [] = Unit {0}
HasCandidates [] (entry ∷ entries) = ⊥
HasCandidates (candidates ∷ more) [] = ⊥
HasCandidates (candidates ∷ more) (entry ∷ entries) = Contains candidates entry × HasCandidates more entries

-- an edge of a dimension that has edges, with one of its labels, between two different nodes
pub record IsPlace (parts : Parts) (e : Edge) : Type 0 where
  pub plan : DimPlan
  pub plan_is : slice_get parts.dims e.dim.0 ≡ Some plan
  pub graph : plan.graph ≡ true
  pub label : e.label.0 < length plan.labels
  pub mother : e.mother.0 < nodes parts
  pub daughter : e.daughter.0 < nodes parts
  pub differ : e.mother.0 ≢ e.daughter.0

-- one edge is decided before another: by dimension, mother, label and daughter
abbrev pub Before : Edge → Edge → Type 0
Before a b =
    (a.dim.0 < b.dim.0)
    ⊎ ((a.dim.0 ≡ b.dim.0)
    × ((a.mother.0 < b.mother.0) ⊎ ((a.mother.0 ≡ b.mother.0) × ((a.label.0 < b.label.0) ⊎ ((a.label.0 ≡ b.label.0) × (a.daughter.0 < b.daughter.0))))))

-- each edge is decided before the next, so none stands twice
abbrev pub EdgesRise : List Edge → Type 0
EdgesRise [] = Unit {0}
EdgesRise (e ∷ []) = Unit {0}
EdgesRise (e ∷ f ∷ edges) = Before e f × EdgesRise (f ∷ edges)

-- an analysis of the problem's sentence: a candidate for each node, a value for each attribute, and edges at
-- its places, in their order
pub record IsAnalysis (parts : Parts) (analysis : Analysis) : Type 0 where
  pub entries : HasCandidates parts.candidates analysis.entries
  pub attr_count : length analysis.attrs ≡ length (attr_sizes (nodes parts) parts.dims)
  pub attrs : Fits (attr_sizes (nodes parts) parts.dims) analysis.attrs
  pub places : All (IsPlace parts) analysis.edges
  pub rise : EdgesRise analysis.edges

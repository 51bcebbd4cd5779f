-- When the numbers of an analysis are those of values, dimensions and labels that are there.
use Rattle.std.specs.Prelude.{ℕ, zero, suc, ◌*◌, ◌<◌, List, [], ◌∷◌, length, drop, slice_index_or}
use Rattle.xdg_problem.specs.declared.analysis.Edge.{Edge}
use Rattle.xdg_problem.specs.declared.parts.AttrPlan.{AttrPlan}
use Rattle.xdg_problem.specs.declared.parts.DimPlan.{DimPlan}
use Rattle.xdg_problem.specs.Arguments.{no_plan}

-- the first numbers of the list are those of a value of each attribute
abbrev pub HasValues : List AttrPlan → List ℕ → Type 0
HasValues [] values = Unit {0}
HasValues (attr ∷ attrs) [] = ⊥
HasValues (attr ∷ attrs) (value ∷ values) = (value < length attr.values) × HasValues attrs values

-- so for each of so many nodes, one node after the other
abbrev pub NodesHaveValues : List AttrPlan → ℕ → List ℕ → Type 0
NodesHaveValues attrs zero values = Unit {0}
NodesHaveValues attrs (suc count) values = HasValues attrs values × NodesHaveValues attrs count (drop (length attrs) values)

-- so for each dimension, with n nodes, one dimension after the other
abbrev pub DimsHaveValues : ℕ → List DimPlan → List ℕ → Type 0
DimsHaveValues n [] values = Unit {0}
DimsHaveValues n (plan ∷ plans) values = NodesHaveValues plan.attrs n values × DimsHaveValues n plans (drop (n * length plan.attrs) values)

-- an edge has one of the dimensions, and one of its labels
abbrev pub HasNames : List DimPlan → Edge → Type 0
HasNames plans e = (e.dim.0 < length plans) × (e.label.0 < length (slice_index_or plans e.dim.0 no_plan).labels)

-- The dimension of an edge place.
use Rattle.std.proofs.Common.{◌≡◌, ◌<◌, length}
use Rattle.std.specs.Prelude.{slice_index_or}
use Rattle.std.proofs.lemmas.Option.{get_or_from_slice_get, slice_get_within}
use Rattle.xdg_problem.specs.declared.analysis.Edge.{Edge}
use Rattle.xdg_problem.specs.declared.parts.DimPlan.{DimPlan}
use Rattle.xdg_problem.specs.declared.parts.Parts.{Parts}
use Rattle.xdg_problem.specs.Analyses.{IsPlace}

-- it is one of the problem
pub dim_within : (parts : Parts) (e : Edge) → IsPlace parts e → e.dim.0 < length parts.dims
dim_within parts e is = slice_get_within parts.dims e.dim.0 is.plan is.plan_is

-- and what is read of it is the place's plan
pub plan_read : (parts : Parts) (e : Edge) (is : IsPlace parts e) (other : DimPlan) → slice_index_or parts.dims e.dim.0 other ≡ is.plan
plan_read parts e is other = get_or_from_slice_get parts.dims e.dim.0 is.plan other is.plan_is

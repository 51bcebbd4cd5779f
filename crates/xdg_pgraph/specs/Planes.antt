-- The places of a dimension, as the code goes over them.
use Rattle.std.specs.Prelude.{◌≡◌, ◌≢◌, ◌<◌, ◌≤◌, ◌↔◌, ℕ, length}
use Rattle.xdg_problem.specs.declared.analysis.Edge.{Edge}
use Rattle.xdg_problem.specs.declared.parts.Parts.{Parts}
use Rattle.xdg_problem.specs.Places.{nodes}
use Rattle.xdg_rules.specs.Rules.{IsPlaceOn}
use Rattle.xdg_store.specs.InRange.{HasEdges}
use Rattle.xdg_pgraph.specs.declared.plane.Plane.{Plane}

-- a mother, a label and a daughter of a plane
pub record IsOnPlane (plane : Plane) (e : Edge) : Type 0 where
  pub dim : e.dim.0 ≡ plane.dim.0
  pub mother : e.mother.0 < plane.nodes
  pub label : e.label.0 < plane.labels
  pub daughter : e.daughter.0 < plane.nodes
  pub differ : e.mother.0 ≢ e.daughter.0

-- the numbers of a dimension are those of its places
pub record IsPlane (parts : Parts) (plane : Plane) : Type 0 where
  pub dim_in : plane.dim.0 < length parts.dims
  pub nodes_is : plane.nodes ≡ nodes parts
  pub small : plane.nodes ≤ 128
  pub labels_small : plane.labels ≤ 32
  pub exact : (e : Edge) → IsPlaceOn parts plane.dim.0 e ↔ IsOnPlane plane e
  pub edges : (node label : ℕ) → node < plane.nodes → label < plane.labels → HasEdges parts plane.dim.0 node label

-- What a call may name.
use Rattle.std.specs.Prelude.{◌≡◌, ℕ, ◌<◌, true, [], length, slice_index_or}
use Rattle.xdg_problem.specs.declared.parts.Parts.{Parts}
use Rattle.xdg_problem.specs.Arguments.{no_plan, label_count, attr_count, value_count}
use Rattle.xdg_problem.specs.Places.{nodes}

-- a node, and a place among its candidates
pub record HasCandidate (parts : Parts) (node place : ℕ) : Type 0 where
  pub node_in : node < nodes parts
  pub place_in : place < length (slice_index_or parts.candidates node [])

-- a node, an attribute of a dimension, and one of its values
pub record HasValue (parts : Parts) (node dim attr value : ℕ) : Type 0 where
  pub node_in : node < nodes parts
  pub dim_in : dim < length parts.dims
  pub attr_in : attr < attr_count parts dim
  pub value_in : value < value_count parts dim attr

-- a dimension that has edges, a node, and a label of the dimension
pub record HasEdges (parts : Parts) (dim node label : ℕ) : Type 0 where
  pub dim_in : dim < length parts.dims
  pub graph : (slice_index_or parts.dims dim no_plan).graph ≡ true
  pub node_in : node < nodes parts
  pub label_in : label < label_count parts dim

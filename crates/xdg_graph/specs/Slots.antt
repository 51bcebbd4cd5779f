-- Attributes of nodes, as the code goes over them: a slot each.
use Rattle.std.specs.Prelude.{◌≡◌, ℕ, ◌<◌, length}
use Rattle.xdg_problem.specs.declared.parts.Parts.{Parts}
use Rattle.xdg_problem.specs.Arguments.{attr_count, value_count}
use Rattle.xdg_problem.specs.Boxes.{attr_decision}
use Rattle.xdg_problem.specs.Places.{nodes}
use Rattle.xdg_graph.specs.declared.slot.Slot.{Slot}

-- an attribute of a node of the sentence, and the number of its values
pub record IsSlot (parts : Parts) (slot : Slot) : Type 0 where
  pub node_in : slot.node.0 < nodes parts
  pub dim_in : slot.dim.0 < length parts.dims
  pub attr_in : slot.attr.0 < attr_count parts slot.dim.0
  pub count_is : slot.count ≡ value_count parts slot.dim.0 slot.attr.0

-- the decision of its value
abbrev pub decision_of : Parts → Slot → ℕ
decision_of parts slot = attr_decision parts slot.dim.0 slot.node.0 slot.attr.0

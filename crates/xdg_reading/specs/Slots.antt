-- Which attributes an analysis has, in their order.
use Rattle.std.specs.Prelude.{ℕ, List, map}
use Rattle.std.specs.List.{flat_map}
use Rattle.xdg_problem.specs.declared.parts.AttrPlan.{AttrPlan}
use Rattle.xdg_problem.specs.declared.parts.DimPlan.{DimPlan}
use Rattle.xdg_problem.specs.Places.{below}
use Rattle.xdg_reading.specs.declared.slots.Slot.{Slot}

-- an attribute of a node on a dimension
pub record Asked : Type 0 where
  pub dim : List ℕ
  pub node : ℕ
  pub attr : AttrPlan

abbrev pub asked_by : Slot → Asked
asked_by slot = record { dim = slot.dim.now; node = slot.node; attr = slot.attr.now }

abbrev pub node_slots : DimPlan → ℕ → List Asked
node_slots plan node = map (λ attr. record { dim = plan.name; node = node; attr = attr }) plan.attrs

abbrev pub dim_slots : ℕ → DimPlan → List Asked
dim_slots n plan = flat_map (node_slots plan) (below n)

-- the attributes by dimension, node and attribute
abbrev pub slots : ℕ → List DimPlan → List Asked
slots n plans = flat_map (dim_slots n) plans

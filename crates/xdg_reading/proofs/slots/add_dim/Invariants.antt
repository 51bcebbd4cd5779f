use Rattle.std.proofs.Common.{◌≡◌, ◌++◌, ◌-◌, map}
use Rattle.std.specs.List.{flat_map}
use Rattle.xdg_problem.specs.Places.{numbers_from}
use Rattle.xdg_reading.specs.Slots.{asked_by, node_slots, dim_slots}
use Rattle.xdg_reading.proofs.slots.add_dim.Given as goal

abbrev pub invariant-loop-node : goal.invariant-loop-node
invariant-loop-node l = map asked_by l.list ++ flat_map (node_slots l.plan) (numbers_from l.node (l.nodes - l.node)) ≡ map asked_by l.initial.list ++ dim_slots l.nodes l.plan

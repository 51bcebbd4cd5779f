use Rattle.std.proofs.Common.{◌≡◌, ◌++◌, drop, map}
use Rattle.std.specs.List.{flat_map}
use Rattle.xdg_reading.specs.Slots.{asked_by, dim_slots, slots}
use Rattle.xdg_reading.proofs.slots.slots.Given as goal

abbrev pub invariant-loop-plan : goal.invariant-loop-plan
invariant-loop-plan l = map asked_by l.list ++ flat_map (dim_slots l.nodes) (drop l.plan-index l.dims) ≡ slots l.nodes l.dims

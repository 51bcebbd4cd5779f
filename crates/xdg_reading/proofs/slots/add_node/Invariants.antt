use Rattle.std.proofs.Common.{◌≡◌, ◌++◌, drop, map}
use Rattle.xdg_reading.specs.Slots.{asked_by, node_slots}
use Rattle.xdg_reading.proofs.slots.add_node.Given as goal

abbrev pub invariant-loop-attr : goal.invariant-loop-attr
invariant-loop-attr l = map asked_by l.list ++ map (λ attr. record { dim = l.plan.name; node = l.node; attr = attr }) (drop l.attr-index l.plan.attrs) ≡ map asked_by l.initial.list ++ node_slots l.plan l.node

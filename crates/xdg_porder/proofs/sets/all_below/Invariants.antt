use Rattle.xdg_nodeset.specs.Tables.{InTable}
use Rattle.xdg_porder.proofs.sets.all_below.Given as goal
use Rattle.xdg_facts.proofs.Gathering.{AreSmall, Gathers}

abbrev pub invariant-loop-node : goal.invariant-loop-node
invariant-loop-node l =
    (goal.iterator-loop-node).can_next l.node-iterator
    × (goal.iterator-loop-node).is_finite l.node-iterator
    × AreSmall l.node-iterator
    × Gathers (λ v x. InTable l.table v x) l.initial.node-iterator l.node-iterator l.below

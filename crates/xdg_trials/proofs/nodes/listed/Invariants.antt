use Rattle.std.proofs.Common.{◌≡◌, ◌++◌}
use Rattle.xdg_trials.proofs.nodes.listed.Given as goal

abbrev pub invariant-loop-node : goal.invariant-loop-node
invariant-loop-node l =
    (goal.iterator-loop-node).can_next l.node-iterator
    × (goal.iterator-loop-node).is_finite l.node-iterator
    × (l.list.items ++ l.node-iterator ≡ l.initial.set)

use Rattle.std.proofs.Common.{◌≡◌, ℕ, true}
use Rattle.xdg_facts.specs.Rises.{has}
use Rattle.xdg_pgraph.proofs.Sources.{AreSettled}
use Rattle.xdg_pgraph.proofs.incoming.are_settled.Given as goal

abbrev pub invariant-loop-node : goal.invariant-loop-node
invariant-loop-node l =
    (goal.iterator-loop-node).can_next l.node-iterator
    × (goal.iterator-loop-node).is_finite l.node-iterator
    × ((v : ℕ) → has l.node-iterator v ≡ true → has l.initial.node-iterator v ≡ true)
    × AreSettled l.store.parts l.store.now l.plane.dim.0 l.initial.node-iterator l.node-iterator

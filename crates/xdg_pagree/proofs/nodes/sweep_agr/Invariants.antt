use Rattle.std.proofs.Common.{◌≡◌, ℕ, true}
use Rattle.xdg_problem.specs.declared.parts.Principle.TheVariants as principles
use Rattle.xdg_propcore.specs.Sweeps.{Sweeps}
use Rattle.xdg_pagree.specs.Places.{IsNodeDone}
use Rattle.xdg_propcore.proofs.Turns.{AreDone}
use Rattle.xdg_pagree.proofs.nodes.sweep_agr.Given as goal
use Rattle.xdg_facts.specs.Rises.{has}

abbrev pub invariant-loop-node : goal.invariant-loop-node
invariant-loop-node l =
    (goal.iterator-loop-node).can_next l.node-iterator
    × (goal.iterator-loop-node).is_finite l.node-iterator
    × ((v : ℕ) → has l.node-iterator v ≡ true → has l.initial.node-iterator v ≡ true)
    × Sweeps l.group (AreDone (IsNodeDone principles.Agr l.initial.store.parts l.group) l.initial.node-iterator l.node-iterator) l.initial.pass l.initial.store l.pass l.store

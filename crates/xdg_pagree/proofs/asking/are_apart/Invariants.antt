use Rattle.std.proofs.Common.{ℕ, ◌<◌}
use Rattle.xdg_problem.specs.Boxes.{Has}
use Rattle.xdg_graph.specs.Slots.{decision_of}
use Rattle.xdg_pagree.proofs.asking.are_apart.Given as goal

abbrev pub invariant-loop-value : goal.invariant-loop-value
invariant-loop-value l = (x : ℕ) → x < l.value → Has l.store.now (decision_of l.store.parts l.one) x → Has l.store.now (decision_of l.store.parts l.other) x → ⊥

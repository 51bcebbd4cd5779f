use Rattle.std.proofs.Common.{ℕ, ◌<◌, Contains}
use Rattle.xdg_problem.specs.Boxes.{Has, entry_decision}
use Rattle.xdg_problem.specs.Features.{map_row}
use Rattle.xdg_graph.specs.Slots.{decision_of}
use Rattle.xdg_pagree.proofs.asking.none_is_allowed.Given as goal

abbrev pub invariant-loop-place : goal.invariant-loop-place
invariant-loop-place l = (c : ℕ) → c < l.place → Has l.store.now (entry_decision l.node.0) c → (x : ℕ) → Has l.store.now (decision_of l.store.parts l.slot) x → Contains (map_row l.group l.node.0 c l.label.0) x → ⊥

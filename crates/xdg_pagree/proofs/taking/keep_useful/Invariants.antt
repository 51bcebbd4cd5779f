use Rattle.xdg_problem.specs.Boxes.{entry_decision}
use Rattle.xdg_pagree.specs.Places.{LacksValue, NoneBelow}
use Rattle.xdg_graph.specs.Slots.{decision_of}
use Rattle.xdg_propcore.specs.Sweeps.{Sweeps}
use Rattle.xdg_pagree.proofs.taking.keep_useful.Given as goal

abbrev pub invariant-loop-place : goal.invariant-loop-place
invariant-loop-place l = Sweeps l.group (NoneBelow l.place (entry_decision l.node.0) (LacksValue l.group l.node.0 (decision_of l.initial.store.parts l.slot))) l.initial.pass l.initial.store l.pass l.store

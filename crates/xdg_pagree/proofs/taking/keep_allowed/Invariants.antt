use Rattle.xdg_pagree.specs.Places.{LacksEntry, NoneBelow}
use Rattle.xdg_graph.specs.Slots.{decision_of}
use Rattle.xdg_propcore.specs.Sweeps.{Sweeps}
use Rattle.xdg_pagree.proofs.taking.keep_allowed.Given as goal

abbrev pub invariant-loop-value : goal.invariant-loop-value
invariant-loop-value l = Sweeps l.group (NoneBelow l.value (decision_of l.initial.store.parts l.slot) (LacksEntry l.group l.node.0 l.label.0)) l.initial.pass l.initial.store l.pass l.store

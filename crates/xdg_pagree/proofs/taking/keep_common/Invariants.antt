use Rattle.xdg_pagree.specs.Places.{LacksOther, NoneBelow}
use Rattle.xdg_graph.specs.Slots.{decision_of}
use Rattle.xdg_propcore.specs.Sweeps.{Sweeps}
use Rattle.xdg_pagree.proofs.taking.keep_common.Given as goal

abbrev pub invariant-loop-value : goal.invariant-loop-value
invariant-loop-value l = Sweeps l.group (NoneBelow l.value (decision_of l.initial.store.parts l.slot) (LacksOther (decision_of l.initial.store.parts l.other))) l.initial.pass l.initial.store l.pass l.store

use Rattle.xdg_pagree.specs.Places.{AreLabelsDone}
use Rattle.xdg_propcore.specs.Sweeps.{Sweeps}
use Rattle.xdg_pagree.proofs.nodes.sweep_labels.Given as goal

abbrev pub invariant-loop-number : goal.invariant-loop-number
invariant-loop-number l = Sweeps l.group (AreLabelsDone l.number l.initial.store.parts l.group) l.initial.pass l.initial.store l.pass l.store

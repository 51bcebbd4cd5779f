use Rattle.xdg_propcore.specs.Sweeps.{Sweeps}
use Rattle.xdg_porder.specs.Across.{AreLabelsDone}
use Rattle.xdg_porder.proofs.across.take_across_node.Given as goal

abbrev pub invariant-loop-label : goal.invariant-loop-label
invariant-loop-label l = Sweeps l.group (AreLabelsDone l.initial.store.parts l.group l.table l.u.0 l.label) l.initial.pass l.initial.store l.pass l.store

use Rattle.xdg_propcore.specs.Sweeps.{Sweeps}
use Rattle.xdg_plink.specs.Steps.{AreLabelsDone}
use Rattle.xdg_plink.proofs.taking.take_node.Given as goal

abbrev pub invariant-loop-label : goal.invariant-loop-label
invariant-loop-label l = Sweeps l.group (AreLabelsDone l.initial.store.parts l.group l.table l.node.0 l.label) l.initial.pass l.initial.store l.pass l.store

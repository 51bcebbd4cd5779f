use Rattle.xdg_propcore.specs.Sweeps.{Sweeps}
use Rattle.xdg_pgraph.specs.Bundles.{AreLabelsDone}
use Rattle.xdg_pgraph.proofs.valency.take_valency.Given as goal

abbrev pub invariant-loop-label : goal.invariant-loop-label
invariant-loop-label l = Sweeps l.group (AreLabelsDone l.label l.fn.store.parts l.group) l.fn.pass l.fn.store l.pass l.store

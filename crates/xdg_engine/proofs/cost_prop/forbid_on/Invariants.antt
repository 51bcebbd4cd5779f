use Rattle.xdg_propcore.specs.Sweeps.{Sweeps}
use Rattle.xdg_engine.specs.Freeing.{OfLabels}
use Rattle.xdg_engine.proofs.cost_prop.forbid_on.Given as goal

abbrev pub invariant-loop-label : goal.invariant-loop-label
invariant-loop-label l = Sweeps l.group (OfLabels l.row l.room l.dim.0 l.label l.initial.store.parts) l.initial.pass l.initial.store l.pass l.store

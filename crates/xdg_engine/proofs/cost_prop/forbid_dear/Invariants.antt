use Rattle.xdg_propcore.specs.Sweeps.{Sweeps}
use Rattle.xdg_engine.specs.Freeing.{OfDims}
use Rattle.xdg_engine.proofs.cost_prop.forbid_dear.Given as goal

abbrev pub invariant-loop-dim : goal.invariant-loop-dim
invariant-loop-dim l = Sweeps l.group (OfDims l.rows l.room l.dim l.initial.store.parts) l.initial.pass l.initial.store l.pass l.store

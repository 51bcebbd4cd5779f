use Rattle.xdg_propcore.specs.Sweeps.{Sweeps}
use Rattle.xdg_propcore.proofs.Turns.{AreBelow}
use Rattle.xdg_engine.proofs.Freed.{NoneOut}
use Rattle.xdg_engine.proofs.cost_prop.forbid_label.Given as goal

abbrev pub invariant-loop-mother : goal.invariant-loop-mother
invariant-loop-mother l = Sweeps l.group (AreBelow (NoneOut l.dim.0 l.label.0 l.initial.store.parts) l.mother) l.initial.pass l.initial.store l.pass l.store

use Rattle.xdg_propcore.specs.Sweeps.{Sweeps}
use Rattle.xdg_porder.specs.Across.{AreNodesDone}
use Rattle.xdg_porder.proofs.across.take_across.Given as goal

abbrev pub invariant-loop-u : goal.invariant-loop-u
invariant-loop-u l = Sweeps l.group (AreNodesDone l.initial.store.parts l.group l.table l.u) l.initial.pass l.initial.store l.pass l.store

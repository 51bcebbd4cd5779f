use Rattle.xdg_propcore.specs.Sweeps.{Sweeps}
use Rattle.xdg_porder.specs.Items.{AreMothersDone}
use Rattle.xdg_porder.proofs.sides.take_nodes.Given as goal

abbrev pub invariant-loop-u : goal.invariant-loop-u
invariant-loop-u l = Sweeps l.group (AreMothersDone l.initial.store.parts l.group l.u) l.initial.pass l.initial.store l.pass l.store

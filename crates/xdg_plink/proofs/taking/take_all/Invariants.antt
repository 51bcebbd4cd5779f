use Rattle.xdg_propcore.specs.Sweeps.{Sweeps}
use Rattle.xdg_plink.specs.Steps.{AreMothersDone}
use Rattle.xdg_plink.proofs.taking.take_all.Given as goal

abbrev pub invariant-loop-node : goal.invariant-loop-node
invariant-loop-node l = Sweeps l.group (AreMothersDone l.initial.store.parts l.group l.table l.node) l.initial.pass l.initial.store l.pass l.store

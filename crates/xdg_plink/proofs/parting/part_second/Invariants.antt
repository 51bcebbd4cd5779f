use Rattle.xdg_propcore.specs.Sweeps.{Sweeps}
use Rattle.xdg_plink.proofs.Apart.{SecondBelow}
use Rattle.xdg_plink.proofs.parting.part_second.Given as goal

abbrev pub invariant-loop-label : goal.invariant-loop-label
invariant-loop-label l = Sweeps l.group (SecondBelow l.initial.store.parts l.place l.dim.0 l.label) l.initial.pass l.initial.store l.pass l.store

use Rattle.xdg_plink.proofs.Apart.{NoneJoins}
use Rattle.xdg_plink.proofs.parting.must_join.Given as goal

abbrev pub invariant-loop-label : goal.invariant-loop-label
invariant-loop-label l = NoneJoins l.store.parts l.store.now l.dim.0 l.mother.0 l.daughter.0 l.label

use Rattle.xdg_nodeset.proofs.TableSets.{Widened}
use Rattle.xdg_judge.proofs.links.widen.Given as goal

abbrev pub invariant-loop-set : goal.invariant-loop-set
invariant-loop-set l = Widened l.initial.table l.table l.middle l.set-index

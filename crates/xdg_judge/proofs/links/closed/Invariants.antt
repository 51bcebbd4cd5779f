use Rattle.xdg_nodeset.specs.Tables.{IsClosure}
use Rattle.xdg_judge.proofs.links.closed.Given as goal

abbrev pub invariant-loop-middle : goal.invariant-loop-middle
invariant-loop-middle l = IsClosure l.middle l.table l.closed

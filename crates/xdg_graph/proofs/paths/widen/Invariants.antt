use Rattle.xdg_nodeset.proofs.TableSets.{Widened}
use Rattle.xdg_graph.proofs.paths.widen.Given as goal

abbrev pub invariant-loop-at : goal.invariant-loop-at
invariant-loop-at l = Widened l.fn.table l.table l.middle l.at

use Rattle.xdg_nodeset.specs.Tables.{IsClosure}
use Rattle.xdg_graph.specs.Edges.{HasNoneFrom, IsLedTo}
use Rattle.xdg_graph.proofs.paths.close.Given as goal

abbrev pub invariant-loop-middle : goal.invariant-loop-middle
invariant-loop-middle l = IsClosure l.middle l.fn.table l.table × HasNoneFrom l.size l.table × IsLedTo l.table l.ends

use Rattle.xdg_problem.specs.Paths.{IsDaughter}
use Rattle.xdg_graph.specs.declared.which.Which.TheVariants as whichs
use Rattle.xdg_graph.specs.Edges.{edges_of}
use Rattle.xdg_graph.proofs.Noting.{Noted}
use Rattle.xdg_graph.proofs.tables.note_may.Given as goal

abbrev pub invariant-loop-mother : goal.invariant-loop-mother
invariant-loop-mother l = Noted (IsDaughter (edges_of whichs.May l.store.parts l.store.now l.dim.0)) l.mother l.table

use Rattle.xdg_problem.specs.Paths.{IsDaughter}
use Rattle.xdg_graph.specs.declared.which.Which.TheVariants as whichs
use Rattle.xdg_graph.specs.Edges.{edges_of}
use Rattle.xdg_graph.proofs.Adding.{LeadsBelow}
use Rattle.xdg_graph.proofs.tables.note_must.Given as goal

abbrev pub invariant-loop-daughter : goal.invariant-loop-daughter
invariant-loop-daughter l = LeadsBelow (IsDaughter (edges_of whichs.Must l.store.parts l.store.now l.dim.0)) l.daughter l.table

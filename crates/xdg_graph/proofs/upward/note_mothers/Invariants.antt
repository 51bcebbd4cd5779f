use Rattle.xdg_graph.specs.Edges.{edges_of}
use Rattle.xdg_graph.proofs.Noting.{IsMother, Noted}
use Rattle.xdg_graph.proofs.upward.note_mothers.Given as goal

abbrev pub invariant-loop-daughter : goal.invariant-loop-daughter
invariant-loop-daughter l = Noted (IsMother (edges_of l.which l.store.parts l.store.now l.dim.0)) l.daughter l.table

use Rattle.xdg_graph.specs.Edges.{edges_of}
use Rattle.xdg_pgraph.specs.Seeking.{Finds, Joins}
use Rattle.xdg_pgraph.proofs.Searched.{FirstLabels}
use Rattle.xdg_pgraph.proofs.finding.joined.Given as goal

abbrev pub invariant-loop-label : goal.invariant-loop-label
invariant-loop-label l = Finds (FirstLabels (Joins (edges_of l.which l.store.parts l.store.now l.plane.dim.0) l.mother l.daughter) l.label) l.found

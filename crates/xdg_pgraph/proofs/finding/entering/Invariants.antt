use Rattle.xdg_graph.specs.Edges.{edges_of}
use Rattle.xdg_pgraph.specs.Seeking.{Finds, Into}
use Rattle.xdg_pgraph.proofs.Searched.{FirstLabels}
use Rattle.xdg_pgraph.proofs.finding.entering.Given as goal

abbrev pub invariant-loop-label : goal.invariant-loop-label
invariant-loop-label l = Finds (FirstLabels (Into (edges_of l.which l.store.parts l.store.now l.plane.dim.0) l.daughter) l.label) l.found

use Rattle.xdg_pgraph.specs.Entering.{Leaving, Tells}
use Rattle.xdg_graph.specs.Edges.{edges_of}
use Rattle.xdg_pgraph.proofs.Below.{Below}
use Rattle.xdg_pgraph.proofs.entered.entered_from.Given as goal

abbrev pub invariant-loop-label : goal.invariant-loop-label
invariant-loop-label l = Tells (Below (λ e. e.label.0) (Leaving (edges_of l.which l.store.parts l.store.now l.plane.dim.0) l.mother) l.label) l.entered

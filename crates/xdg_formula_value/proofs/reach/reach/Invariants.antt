use Rattle.std.proofs.Common.{◌-◌, length}
use Rattle.xdg_nodeset.specs.Nodes.{nodes}
use Rattle.xdg_graph.specs.Edges.{edges_of}
use Rattle.xdg_formula_value.proofs.Reached.{Walks}
use Rattle.xdg_formula_value.proofs.reach.reach.Given as goal
use Rattle.xdg_facts.specs.Rises.{has}

abbrev pub invariant-loop-next : goal.invariant-loop-next
invariant-loop-next l = Walks l.way (edges_of l.which l.store.parts l.store.now l.dim.0) l.fn.node.0 l.reached l.taken

abbrev pub decreases-loop-next : goal.decreases-loop-next
decreases-loop-next l = 128 - length (nodes (has l.taken))

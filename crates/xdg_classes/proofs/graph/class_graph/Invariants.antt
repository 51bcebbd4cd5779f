use Rattle.std.proofs.Common.{◌≡◌, map, take}
use Rattle.xdg_classes.specs.Graph as spec
use Rattle.xdg_classes.specs.Lent.{class_def}
use Rattle.xdg_classes.proofs.graph.class_graph.Given as goal

abbrev pub invariant-loop-definition : goal.invariant-loop-definition
invariant-loop-definition l = l.made.items ≡ map (spec.class_uses l.known) (map class_def (take l.definition-index l.definitions))

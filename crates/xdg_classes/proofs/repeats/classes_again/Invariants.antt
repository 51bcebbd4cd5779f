use Rattle.std.proofs.Common.{map, drop}
use Rattle.xdg_types.proofs.Again.{SeenSoFar}
use Rattle.xdg_classes.specs.Definitions.{class_names}
use Rattle.xdg_classes.specs.Lent.{class_def}
use Rattle.xdg_classes.proofs.repeats.classes_again.Given as goal

abbrev pub invariant-loop-definition : goal.invariant-loop-definition
invariant-loop-definition l = SeenSoFar l.found l.seen (class_names (map class_def (drop l.definition-index l.definitions))) l.initial.seen (class_names (map class_def l.definitions))

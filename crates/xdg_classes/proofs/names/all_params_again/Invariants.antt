use Rattle.std.proofs.Common.{map, drop}
use Rattle.xdg_types.proofs.FaultTurns.{FoundSoFar}
use Rattle.xdg_classes.specs.NameFaults as spec
use Rattle.xdg_classes.specs.Lent.{class_def}
use Rattle.xdg_classes.proofs.names.all_params_again.Given as goal

abbrev pub invariant-loop-definition : goal.invariant-loop-definition
invariant-loop-definition l = FoundSoFar l.found spec.param_faults (map class_def (drop l.definition-index l.definitions)) (map class_def l.definitions)

use Rattle.std.proofs.Common.{drop}
use Rattle.xdg_types.proofs.FaultTurns.{FoundSoFar}
use Rattle.xdg_principles.specs.ArgumentFaults as spec
use Rattle.xdg_principles.proofs.arguments.outside.Given as goal

abbrev pub invariant-loop-name : goal.invariant-loop-name
invariant-loop-name l = FoundSoFar l.found (spec.outside l.labels) (drop l.name-index l.names) l.names

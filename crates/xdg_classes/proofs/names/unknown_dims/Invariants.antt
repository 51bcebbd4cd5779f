use Rattle.std.proofs.Common.{map, drop}
use Rattle.xdg_types.proofs.FaultTurns.{FoundSoFar}
use Rattle.xdg_classes.specs.NameFaults as spec
use Rattle.xdg_classes.specs.Lent.{said}
use Rattle.xdg_classes.proofs.names.unknown_dims.Given as goal

abbrev pub invariant-loop-record : goal.invariant-loop-record
invariant-loop-record l = FoundSoFar l.found (spec.said_faults l.known) (map said (drop l.record-index l.records)) (map said l.records)

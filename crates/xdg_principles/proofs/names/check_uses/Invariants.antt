use Rattle.std.proofs.Common.{drop, map}
use Rattle.xdg_types.proofs.FaultTurns.{FoundSoFar}
use Rattle.xdg_principles.specs.NameFaults.{found_faults}
use Rattle.xdg_principles.specs.Uses.{told}
use Rattle.xdg_principles.proofs.names.check_uses.Given as goal

abbrev pub invariant-loop-one : goal.invariant-loop-one
invariant-loop-one l = FoundSoFar l.found (found_faults l.defined l.used) (map told (drop l.one-index l.uses)) (map told l.uses)

use Rattle.std.proofs.Common.{drop}
use Rattle.xdg_types.proofs.FaultTurns.{FoundSoFar}
use Rattle.xdg_types.specs.NameFaults as names
use Rattle.xdg_principles.specs.Uses as spec
use Rattle.xdg_principles.proofs.keys.unknown_among.Given as goal

abbrev pub invariant-loop-pair : goal.invariant-loop-pair
invariant-loop-pair l = FoundSoFar l.found (names.unknown l.known) (spec.values (drop l.pair-index l.pairs)) (spec.values l.pairs)

use Rattle.std.proofs.Common.{drop}
use Rattle.xdg_types.proofs.FaultTurns.{FoundSoFar}
use Rattle.xdg_typing.proofs.shared.check_constants.Given as goal
use Rattle.xdg_types.specs.NameFaults.{repeated}

abbrev pub invariant-loop-constant : goal.invariant-loop-constant
invariant-loop-constant l = FoundSoFar l.found (repeated l.seen) (drop l.constant-index l.constants) l.constants

use Rattle.std.proofs.Common.{drop}
use Rattle.xdg_types.proofs.FaultTurns.{FoundSoFar}
use Rattle.xdg_types.specs.Parts.{used_names}
use Rattle.xdg_types.specs.NameFaults as spec
use Rattle.xdg_typing.proofs.uses.unknown_used.Given as goal

abbrev pub invariant-loop-statement : goal.invariant-loop-statement
invariant-loop-statement l = FoundSoFar l.found (spec.unknown l.known) (used_names (drop l.statement-index l.statements)) (used_names l.statements)

use Rattle.std.proofs.Common.{drop}
use Rattle.xdg_types.proofs.FaultTurns.{FoundSoFar}
use Rattle.xdg_types.specs.Parts.{dimensions}
use Rattle.xdg_typing.specs.Listed as listing
use Rattle.xdg_typing.proofs.names.in_statements.Given as goal

abbrev pub invariant-loop-statement : goal.invariant-loop-statement
invariant-loop-statement l = FoundSoFar l.found (listing.in_dimension l.known) (dimensions (drop l.statement-index l.statements)) (dimensions l.statements)

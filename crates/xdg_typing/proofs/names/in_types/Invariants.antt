use Rattle.std.proofs.Common.{drop}
use Rattle.xdg_types.proofs.FaultTurns.{FoundSoFar}
use Rattle.xdg_types.specs.Parts.{in_parts, type_in}
use Rattle.xdg_typing.specs.Listed as listing
use Rattle.xdg_typing.proofs.names.in_types.Given as goal

abbrev pub invariant-loop-part : goal.invariant-loop-part
invariant-loop-part l = FoundSoFar l.found (listing.in_type l.known) (in_parts type_in (drop l.part-index l.parts)) (in_parts type_in l.parts)

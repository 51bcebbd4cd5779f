use Rattle.std.proofs.Common.{drop}
use Rattle.xdg_types.specs.Parts.{used_names}
use Rattle.xdg_types.proofs.Again.{SeenSoFar}
use Rattle.xdg_typing.proofs.repeats.used_again.Given as goal

abbrev pub invariant-loop-statement : goal.invariant-loop-statement
invariant-loop-statement l = SeenSoFar l.found l.seen (used_names (drop l.statement-index l.statements)) l.initial.seen (used_names l.statements)

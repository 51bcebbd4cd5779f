use Rattle.std.proofs.Common.{drop}
use Rattle.xdg_types.specs.Parts.{dim_names}
use Rattle.xdg_types.proofs.Again.{SeenSoFar}
use Rattle.xdg_typing.proofs.repeats.dims_again.Given as goal

abbrev pub invariant-loop-statement : goal.invariant-loop-statement
invariant-loop-statement l = SeenSoFar l.found l.seen (dim_names (drop l.statement-index l.statements)) l.initial.seen (dim_names l.statements)

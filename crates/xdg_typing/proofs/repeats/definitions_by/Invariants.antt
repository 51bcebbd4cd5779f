use Rattle.std.proofs.Common.{drop}
use Rattle.xdg_typing.specs.Listed.{named_by}
use Rattle.xdg_types.proofs.Again.{SeenSoFar}
use Rattle.xdg_typing.proofs.repeats.definitions_by.Given as goal

abbrev pub invariant-loop-part : goal.invariant-loop-part
invariant-loop-part l = SeenSoFar l.found l.seen (named_by (drop l.part-index l.parts)) l.initial.seen (named_by l.parts)

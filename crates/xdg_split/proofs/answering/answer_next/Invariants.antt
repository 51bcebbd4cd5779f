use Rattle.std.proofs.Common.{All}
use Rattle.xdg_split.specs.Slots.{IsPlaced}
use Rattle.xdg_split.proofs.answering.answer_next.Given as goal

abbrev pub invariant-loop : goal.invariant-loop
invariant-loop g l = All (IsPlaced l.jobs) l.found

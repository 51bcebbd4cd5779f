use Rattle.std.proofs.Common.{take}
use Rattle.std.specs.List.{AllZip}
use Rattle.xdg_split.specs.Answers.{IsAnswer}
use Rattle.xdg_split.specs.Slots.{Fits}
use Rattle.xdg_split.proofs.slots.answers_of.Given as goal

abbrev pub invariant-loop-place : goal.invariant-loop-place
invariant-loop-place g l = AllZip Fits l.jobs l.slots.items × AllZip IsAnswer (take l.place l.jobs) l.answers

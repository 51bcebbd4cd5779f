use Rattle.xdg_names.specs.First.{Tells, Below}
use Rattle.xdg_names.specs.Closing.{Meets, the_use}
use Rattle.xdg_names.proofs.meeting.meeting_uses.Given as goal

abbrev pub invariant-loop-i : goal.invariant-loop-i
invariant-loop-i l = Tells (Below (λ k. Meets l.numbers l.own (the_use l.uses k)) l.i) l.found

use Rattle.xdg_names.specs.First.{Tells, Below}
use Rattle.xdg_names.specs.Leads.{uses_of, number}
use Rattle.xdg_names.specs.Closing.{HasMeeting}
use Rattle.xdg_names.proofs.meeting.closing.Given as goal

abbrev pub invariant-loop-definition : goal.invariant-loop-definition
invariant-loop-definition l = Tells (Below (λ a. HasMeeting l.components.numbers (number l.components.numbers a) (uses_of l.graph a)) l.definition) l.found

use Rattle.xdg_nodeset.proofs.Meetings.{some_met}
use Rattle.xdg_nodeset.proofs.meeting.overlap.Goals as goal

pub returns-in-Some : goal.returns-in-Some
returns-in-Some c = some_met c.args.a c.args.b c.meet.result _ c.in-Some.field-0.0 c.in-Some.ensures.value.0 c.meet.ensures.members

use Rattle.xdg_trials.proofs.Graphs.{graph_closed}
use Rattle.xdg_trials.proofs.meeting.MeetsPropagator.laws.Goals as goal

pub returns-clause-still_closed : goal.returns-clause-still_closed
returns-clause-still_closed c p parts box problem is still = graph_closed parts box

pub returns-clause-stays_still : goal.returns-clause-stays_still
returns-clause-stays_still c p parts number old new problem mine was is inside outside still = still

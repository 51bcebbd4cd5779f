use Rattle.xdg_propcore.proofs.SampleLaws.{lacks_closed, lacks_still}
use Rattle.xdg_trials.proofs.settling.TakesSecondPropagator.laws.Goals as goal

pub returns-clause-still_closed : goal.returns-clause-still_closed
returns-clause-still_closed c p parts box problem is lacks = lacks_closed parts box is lacks

pub returns-clause-stays_still : goal.returns-clause-stays_still
returns-clause-stays_still c p parts number old new problem mine was is inside outside lacks = lacks_still old new inside lacks

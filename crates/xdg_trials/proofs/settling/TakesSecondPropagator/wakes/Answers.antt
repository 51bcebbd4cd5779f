use Rattle.xdg_propcore.proofs.SampleSteps.{wakes_named}
use Rattle.xdg_trials.proofs.settling.TakesSecondPropagator.wakes.Goals as goal

pub returns-clause-named : goal.returns-clause-named
returns-clause-named c parts number mine = wakes_named parts number c.attrs.result.0 c.attrs.ensures mine

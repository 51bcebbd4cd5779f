use Rattle.xdg_engine.proofs.BoundStaying.{bound_stays}
use Rattle.xdg_engine.proofs.cost_prop.CostPropPropagator.laws.Goals as goal

pub returns-clause-stays_still : goal.returns-clause-stays_still
returns-clause-stays_still c = bound_stays

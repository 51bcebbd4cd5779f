use Rattle.std.proofs.Common.{inl}
use Rattle.xdg_propcore.specs.Uses.{use_at}
use Rattle.xdg_engine.proofs.BoundNamed.{looks_at_all}
use Rattle.xdg_engine.proofs.cost_prop.CostPropPropagator.wakes.Goals as goal

pub returns-clause-named : goal.returns-clause-named
returns-clause-named c parts number stands kind bit = inl (looks_at_all (use_at parts number).principle parts c.args.self.now.bound c.args.self.now.entries c.args.self.now.labels stands.1.holds)

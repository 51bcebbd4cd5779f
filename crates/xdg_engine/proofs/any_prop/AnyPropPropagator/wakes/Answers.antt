use Rattle.xdg_engine.proofs.any_prop.AnyPropPropagator.wakes.Goals as goal

pub returns-in-Graph-clause-named : goal.returns-in-Graph-clause-named
returns-in-Graph-clause-named c = rw c.in-Graph.is c.wakes.ensures.named

pub returns-in-Order-clause-named : goal.returns-in-Order-clause-named
returns-in-Order-clause-named c = rw c.in-Order.is c.wakes-in-Order.ensures.named

pub returns-in-Agree-clause-named : goal.returns-in-Agree-clause-named
returns-in-Agree-clause-named c = rw c.in-Agree.is c.wakes-in-Agree.ensures.named

pub returns-in-Multi-clause-named : goal.returns-in-Multi-clause-named
returns-in-Multi-clause-named c = rw c.in-Multi.is c.wakes-in-Multi.ensures.named

pub returns-in-Link-clause-named : goal.returns-in-Link-clause-named
returns-in-Link-clause-named c = rw c.in-Link.is c.wakes-in-Link.ensures.named

pub returns-in-Rule-clause-named : goal.returns-in-Rule-clause-named
returns-in-Rule-clause-named c = rw c.in-Rule.is c.wakes-in-Rule.ensures.named

pub returns-in-Cost-clause-named : goal.returns-in-Cost-clause-named
returns-in-Cost-clause-named c = rw c.in-Cost.is c.wakes-in-Cost.ensures.named

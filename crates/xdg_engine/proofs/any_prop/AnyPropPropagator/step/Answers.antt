use Rattle.xdg_engine.proofs.any_prop.AnyPropPropagator.step.Goals as goal

pub step-requires : goal.step-requires
step-requires c = record { stands = rw c.in-Graph.is at c.requires.stands }

pub returns-in-Graph-clause-same : goal.returns-in-Graph-clause-same
returns-in-Graph-clause-same c = rw c.in-Graph.is c.step.ensures.same

pub step-requires-in-Order : goal.step-requires-in-Order
step-requires-in-Order c = record { stands = rw c.in-Order.is at c.requires.stands }

pub returns-in-Order-clause-same : goal.returns-in-Order-clause-same
returns-in-Order-clause-same c = rw c.in-Order.is c.step-in-Order.ensures.same

pub step-requires-in-Agree : goal.step-requires-in-Agree
step-requires-in-Agree c = record { stands = rw c.in-Agree.is at c.requires.stands }

pub returns-in-Agree-clause-same : goal.returns-in-Agree-clause-same
returns-in-Agree-clause-same c = rw c.in-Agree.is c.step-in-Agree.ensures.same

pub step-requires-in-Multi : goal.step-requires-in-Multi
step-requires-in-Multi c = record { stands = rw c.in-Multi.is at c.requires.stands }

pub returns-in-Multi-clause-same : goal.returns-in-Multi-clause-same
returns-in-Multi-clause-same c = rw c.in-Multi.is c.step-in-Multi.ensures.same

pub step-requires-in-Link : goal.step-requires-in-Link
step-requires-in-Link c = record { stands = rw c.in-Link.is at c.requires.stands }

pub returns-in-Link-clause-same : goal.returns-in-Link-clause-same
returns-in-Link-clause-same c = rw c.in-Link.is c.step-in-Link.ensures.same

pub step-requires-in-Rule : goal.step-requires-in-Rule
step-requires-in-Rule c = record { stands = rw c.in-Rule.is at c.requires.stands }

pub returns-in-Rule-clause-same : goal.returns-in-Rule-clause-same
returns-in-Rule-clause-same c = rw c.in-Rule.is c.step-in-Rule.ensures.same

pub step-requires-in-Cost : goal.step-requires-in-Cost
step-requires-in-Cost c = record { stands = rw c.in-Cost.is at c.requires.stands }

pub returns-in-Cost-clause-same : goal.returns-in-Cost-clause-same
returns-in-Cost-clause-same c = rw c.in-Cost.is c.step-in-Cost.ensures.same

use Rattle.xdg_engine.proofs.any_prop.AnyPropPropagator.step_since.Goals as goal

pub step_since-requires-clause-stands : goal.step_since-requires-clause-stands
step_since-requires-clause-stands c = rw c.in-Graph.is at c.requires.stands

pub step_since-requires-clause-held : goal.step_since-requires-clause-held
step_since-requires-clause-held c = rw c.in-Graph.is at c.requires.held

pub returns-in-Graph-clause-same : goal.returns-in-Graph-clause-same
returns-in-Graph-clause-same c = rw c.in-Graph.is c.step_since.ensures.same

pub step_since-requires-in-Order-clause-stands : goal.step_since-requires-in-Order-clause-stands
step_since-requires-in-Order-clause-stands c = rw c.in-Order.is at c.requires.stands

pub step_since-requires-in-Order-clause-held : goal.step_since-requires-in-Order-clause-held
step_since-requires-in-Order-clause-held c = rw c.in-Order.is at c.requires.held

pub returns-in-Order-clause-same : goal.returns-in-Order-clause-same
returns-in-Order-clause-same c = rw c.in-Order.is c.step_since-in-Order.ensures.same

pub step_since-requires-in-Agree-clause-stands : goal.step_since-requires-in-Agree-clause-stands
step_since-requires-in-Agree-clause-stands c = rw c.in-Agree.is at c.requires.stands

pub step_since-requires-in-Agree-clause-held : goal.step_since-requires-in-Agree-clause-held
step_since-requires-in-Agree-clause-held c = rw c.in-Agree.is at c.requires.held

pub returns-in-Agree-clause-same : goal.returns-in-Agree-clause-same
returns-in-Agree-clause-same c = rw c.in-Agree.is c.step_since-in-Agree.ensures.same

pub step_since-requires-in-Multi-clause-stands : goal.step_since-requires-in-Multi-clause-stands
step_since-requires-in-Multi-clause-stands c = rw c.in-Multi.is at c.requires.stands

pub step_since-requires-in-Multi-clause-held : goal.step_since-requires-in-Multi-clause-held
step_since-requires-in-Multi-clause-held c = rw c.in-Multi.is at c.requires.held

pub returns-in-Multi-clause-same : goal.returns-in-Multi-clause-same
returns-in-Multi-clause-same c = rw c.in-Multi.is c.step_since-in-Multi.ensures.same

pub step_since-requires-in-Link-clause-stands : goal.step_since-requires-in-Link-clause-stands
step_since-requires-in-Link-clause-stands c = rw c.in-Link.is at c.requires.stands

pub step_since-requires-in-Link-clause-held : goal.step_since-requires-in-Link-clause-held
step_since-requires-in-Link-clause-held c = rw c.in-Link.is at c.requires.held

pub returns-in-Link-clause-same : goal.returns-in-Link-clause-same
returns-in-Link-clause-same c = rw c.in-Link.is c.step_since-in-Link.ensures.same

pub step_since-requires-in-Rule-clause-stands : goal.step_since-requires-in-Rule-clause-stands
step_since-requires-in-Rule-clause-stands c = rw c.in-Rule.is at c.requires.stands

pub step_since-requires-in-Rule-clause-held : goal.step_since-requires-in-Rule-clause-held
step_since-requires-in-Rule-clause-held c = rw c.in-Rule.is at c.requires.held

pub returns-in-Rule-clause-same : goal.returns-in-Rule-clause-same
returns-in-Rule-clause-same c = rw c.in-Rule.is c.step_since-in-Rule.ensures.same

pub step_since-requires-in-Cost-clause-stands : goal.step_since-requires-in-Cost-clause-stands
step_since-requires-in-Cost-clause-stands c = rw c.in-Cost.is at c.requires.stands

pub step_since-requires-in-Cost-clause-held : goal.step_since-requires-in-Cost-clause-held
step_since-requires-in-Cost-clause-held c = rw c.in-Cost.is at c.requires.held

pub returns-in-Cost-clause-same : goal.returns-in-Cost-clause-same
returns-in-Cost-clause-same c = rw c.in-Cost.is c.step_since-in-Cost.ensures.same

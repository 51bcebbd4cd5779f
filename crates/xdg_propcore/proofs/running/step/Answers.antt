use Rattle.xdg_propcore.proofs.running.step.Goals as goal

pub step_since-requires-clause-held : goal.step_since-requires-clause-held
step_since-requires-clause-held g c = c.requires.held c.in-Some.mark c.in-Some.is

use Rattle.xdg_propcore.proofs.Touches.{AreMarked}
use Rattle.xdg_propcore.proofs.touched.Touched.gather.Given as goal

abbrev pub invariant-loop-decision : goal.invariant-loop-decision
invariant-loop-decision l = AreMarked l.self l.dim.0 l.removed l.decision-index

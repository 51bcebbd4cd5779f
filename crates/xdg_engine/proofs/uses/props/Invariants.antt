use Rattle.xdg_engine.specs.Standing.{AreInOrder}
use Rattle.xdg_engine.proofs.uses.props.Given as goal

abbrev pub invariant-loop-number : goal.invariant-loop-number
invariant-loop-number l = AreInOrder l.problem l.number l.props

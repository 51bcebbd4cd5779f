use Rattle.std.proofs.Common.{◌+◌, map}
use Rattle.xdg_facts.specs.Flags.{count_set}
use Rattle.xdg_propcore.specs.Standing.{AreHeld}
use Rattle.xdg_propcore.proofs.Settling.{Running, cost}
use Rattle.xdg_propcore.proofs.running.run.Given as goal

abbrev pub invariant-loop-at : goal.invariant-loop-at
invariant-loop-at g l = Running g.P.Propagator.stands g.P.Propagator.still g.P.Propagator.kinds l.props l.fn.store (count_set l.fn.awake) l.store l.awake
    × AreHeld g.P.Propagator.still l.props l.store l.rests

abbrev pub decreases-loop-at : goal.decreases-loop-at
decreases-loop-at g l = count_set l.awake + cost (map g.P.Propagator.kinds l.props) l.fn.store.parts l.store.now

use Rattle.std.proofs.Common.{map}
use Rattle.xdg_propcore.proofs.Waking.{Woken}
use Rattle.xdg_propcore.proofs.running.wake.Given as goal

abbrev pub invariant-loop-at : goal.invariant-loop-at
invariant-loop-at l = Woken (map (λ w. w.0) l.wakes) l.lost.0 l.fn.awake l.awake l.at

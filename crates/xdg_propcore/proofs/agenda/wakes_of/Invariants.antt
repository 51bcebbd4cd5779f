use Rattle.std.proofs.Common.{◌≡◌, map, take}
use Rattle.xdg_propcore.proofs.agenda.wakes_of.Given as goal

abbrev pub invariant-loop-p : goal.invariant-loop-p
invariant-loop-p g l = map (λ w. w.0) l.wakes.items ≡ map g.P.Propagator.kinds (take l.p-index l.props)

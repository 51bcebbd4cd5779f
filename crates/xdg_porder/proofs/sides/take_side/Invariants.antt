use Rattle.xdg_propcore.specs.Sweeps.{Sweeps}
use Rattle.xdg_porder.specs.Sides.{IsSideDone}
use Rattle.xdg_porder.proofs.Siding.{Reaches}
use Rattle.xdg_porder.proofs.sides.take_side.Given as goal

abbrev pub invariant-loop-place : goal.invariant-loop-place
invariant-loop-place l = Sweeps l.group (IsSideDone l.initial.store.parts l.group l.u.0 l.side l.place) l.initial.pass l.initial.store l.pass l.store × Reaches l.group l.u.0 l.side l.place l.reached l.pass l.store

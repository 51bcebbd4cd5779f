use Rattle.xdg_porder.specs.Yields.{StandsAt}
use Rattle.xdg_porder.proofs.Settling.{InOrder, Reached}
use Rattle.xdg_porder.proofs.yields.is_broken_at.Given as goal

abbrev pub invariant-loop-place : goal.invariant-loop-place
invariant-loop-place l =
    Reached (StandsAt l.store.parts l.group l.table l.store.now l.u.0) l.place l.reached × InOrder (StandsAt l.store.parts l.group l.table l.store.now l.u.0) l.place

use Rattle.std.specs.Prelude.{cond}
use Rattle.xdg_store.specs.States.{Known}
use Rattle.xdg_propcore.proofs.Aimed.{Passed}
use Rattle.xdg_pgraph.proofs.Clearing.{OpenAt}
use Rattle.xdg_pgraph.proofs.valency.take_open.Given as goal

abbrev pub invariant-loop-other : goal.invariant-loop-other
invariant-loop-other l =
    (goal.iterator-loop-other).can_next l.other-iterator
    × (goal.iterator-loop-other).is_finite l.other-iterator
    × Passed (OpenAt l.plane.dim.0 l.bundle (cond l.present 0 1)) l.initial.other-iterator l.other-iterator l.fn.pass l.fn.store l.pass l.store
    × Known l.store

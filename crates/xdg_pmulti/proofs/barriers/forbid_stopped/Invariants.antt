use Rattle.xdg_store.specs.States.{Known}
use Rattle.xdg_pmulti.specs.Aims.{Forbids}
use Rattle.xdg_pmulti.proofs.Aiming.{ByBarrier}
use Rattle.xdg_propcore.proofs.Aimed.{Passed}
use Rattle.xdg_pmulti.proofs.barriers.forbid_stopped.Given as goal

abbrev pub invariant-loop-barrier : goal.invariant-loop-barrier
invariant-loop-barrier l =
    (goal.iterator-loop-barrier).can_next l.barrier-iterator
    × (goal.iterator-loop-barrier).is_finite l.barrier-iterator
    × Passed (λ parts x. Forbids parts l.dim.0 (ByBarrier l.label.0 l.over l.near x)) l.initial.barrier-iterator l.barrier-iterator l.initial.pass l.initial.store l.pass l.store
    × Known l.store

use Rattle.xdg_store.specs.States.{Known}
use Rattle.xdg_propcore.proofs.Aimed.{Passed}
use Rattle.xdg_pgraph.specs.declared.found.Found.TheVariants as founds
use Rattle.xdg_pgraph.specs.Seeking.{Aims, FromTo}
use Rattle.xdg_pgraph.proofs.reach.no_cycle_into.Given as goal

abbrev pub invariant-loop-mother : goal.invariant-loop-mother
invariant-loop-mother l =
    (goal.iterator-loop-mother).can_next l.mother-iterator
    × (goal.iterator-loop-mother).is_finite l.mother-iterator
    × Passed (λ parts x. Aims parts l.plane.dim.0 founds.More (FromTo x l.daughter)) l.initial.mother-iterator l.mother-iterator l.fn.pass l.fn.store l.pass l.store
    × Known l.store

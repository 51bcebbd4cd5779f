use Rattle.xdg_problem.specs.Places.{edge}
use Rattle.xdg_store.specs.States.{Known}
use Rattle.xdg_propcore.proofs.Aimed.{Passed}
use Rattle.xdg_pgraph.proofs.Taken.{OneOf}
use Rattle.xdg_pgraph.proofs.taking.forbid_labelled.Given as goal

abbrev pub invariant-loop-mother : goal.invariant-loop-mother
invariant-loop-mother l =
    (goal.iterator-loop-mother).can_next l.mother-iterator
    × (goal.iterator-loop-mother).is_finite l.mother-iterator
    × Passed (OneOf l.plane.dim.0 l.others (λ x. edge l.plane.dim.0 x l.label l.daughter)) l.initial.mother-iterator l.mother-iterator l.fn.pass l.fn.store l.pass l.store
    × Known l.store

use Rattle.xdg_store.specs.States.{Known}
use Rattle.xdg_pmulti.specs.Aims.{Beyond, Forbids}
use Rattle.xdg_propcore.proofs.Aimed.{Passed}
use Rattle.xdg_pmulti.proofs.taking.forbid_out.Given as goal

abbrev pub invariant-loop-mother : goal.invariant-loop-mother
invariant-loop-mother l =
    (goal.iterator-loop-mother).can_next l.mother-iterator
    × (goal.iterator-loop-mother).is_finite l.mother-iterator
    × Passed (λ parts u. Forbids parts l.dim.0 (Beyond u l.label.0 l.within)) l.initial.mother-iterator l.mother-iterator l.initial.pass l.initial.store l.pass l.store
    × Known l.store

use Rattle.xdg_store.specs.States.{Known}
use Rattle.xdg_pmulti.specs.Aims.{Forbids}
use Rattle.xdg_pmulti.proofs.Aiming.{To}
use Rattle.xdg_propcore.proofs.Aimed.{Passed}
use Rattle.xdg_pmulti.proofs.taking.forbid_beyond.Given as goal

abbrev pub invariant-loop-daughter : goal.invariant-loop-daughter
invariant-loop-daughter l =
    (goal.iterator-loop-daughter).can_next l.daughter-iterator
    × (goal.iterator-loop-daughter).is_finite l.daughter-iterator
    × Passed (λ parts x. Forbids parts l.dim.0 (To l.dim.0 l.mother.0 l.label.0 x)) l.initial.daughter-iterator l.daughter-iterator l.initial.pass l.initial.store l.pass l.store
    × Known l.store

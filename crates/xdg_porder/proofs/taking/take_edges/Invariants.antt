use Rattle.xdg_store.specs.States.{Known}
use Rattle.xdg_propcore.proofs.Aimed.{Passed}
use Rattle.xdg_porder.proofs.Removing.{EdgeAt}
use Rattle.xdg_porder.proofs.taking.take_edges.Given as goal

abbrev pub invariant-loop-daughter : goal.invariant-loop-daughter
invariant-loop-daughter l =
    (goal.iterator-loop-daughter).can_next l.daughter-iterator
    × (goal.iterator-loop-daughter).is_finite l.daughter-iterator
    × Passed (EdgeAt l.dim.0 l.u.0 l.label.0) l.initial.daughter-iterator l.daughter-iterator l.initial.pass l.initial.store l.pass l.store
    × Known l.store

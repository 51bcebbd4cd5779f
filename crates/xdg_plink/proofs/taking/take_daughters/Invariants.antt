use Rattle.std.proofs.Common.{◌≡◌, ℕ, true}
use Rattle.xdg_propcore.specs.Sweeps.{Sweeps}
use Rattle.xdg_problem.specs.Places.{edge}
use Rattle.xdg_propcore.proofs.Turns.{AreDone}
use Rattle.xdg_plink.specs.Steps.{DoneAt}
use Rattle.xdg_plink.proofs.taking.take_daughters.Given as goal
use Rattle.xdg_facts.specs.Rises.{has}

abbrev pub invariant-loop-daughter : goal.invariant-loop-daughter
invariant-loop-daughter l =
    (goal.iterator-loop-daughter).can_next l.daughter-iterator
    × (goal.iterator-loop-daughter).is_finite l.daughter-iterator
    × ((v : ℕ) → has l.daughter-iterator v ≡ true → has l.initial.daughter-iterator v ≡ true)
    × Sweeps l.group (AreDone (λ v. DoneAt l.initial.store.parts l.group l.table (edge l.dim.0 l.node.0 l.label.0 v)) l.initial.daughter-iterator l.daughter-iterator) l.initial.pass l.initial.store l.pass l.store

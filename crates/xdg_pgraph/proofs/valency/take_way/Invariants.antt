use Rattle.std.proofs.Common.{◌≡◌, ℕ, true}
use Rattle.xdg_facts.specs.Rises.{has}
use Rattle.xdg_propcore.specs.Sweeps.{Sweeps}
use Rattle.xdg_propcore.proofs.Turns.{AreDone}
use Rattle.xdg_pgraph.specs.Bundles.{IsBundleDone}
use Rattle.xdg_pgraph.proofs.valency.take_way.Given as goal

abbrev pub invariant-loop-node : goal.invariant-loop-node
invariant-loop-node l =
    (goal.iterator-loop-node).can_next l.node-iterator
    × (goal.iterator-loop-node).is_finite l.node-iterator
    × ((v : ℕ) → has l.node-iterator v ≡ true → has l.initial.node-iterator v ≡ true)
    × Sweeps l.group (AreDone (λ v. IsBundleDone l.way l.fn.store.parts l.group v l.label) l.initial.node-iterator l.node-iterator) l.fn.pass l.fn.store l.pass l.store

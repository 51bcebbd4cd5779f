use Rattle.std.proofs.Common.{◌≡◌, ℕ, true}
use Rattle.xdg_facts.specs.Rises.{has}
use Rattle.xdg_rules.specs.Rules.{OneMother}
use Rattle.xdg_store.specs.States.{Known}
use Rattle.xdg_pgraph.proofs.Beside.{its_daughter}
use Rattle.xdg_pgraph.proofs.Ruled.{Outside, RunsPart}
use Rattle.xdg_pgraph.proofs.Skipped.{Stays}
use Rattle.xdg_pgraph.proofs.tree.one_mother.Given as goal

abbrev pub invariant-loop-daughter : goal.invariant-loop-daughter
invariant-loop-daughter l =
    (goal.iterator-loop-daughter).can_next l.daughter-iterator
    × (goal.iterator-loop-daughter).is_finite l.daughter-iterator
    × ((v : ℕ) → has l.daughter-iterator v ≡ true → has l.initial.daughter-iterator v ≡ true)
    × RunsPart OneMother (Outside OneMother its_daughter l.daughter-iterator) l.plane.dim.0 l.fn.pass l.fn.store l.pass l.store
    × (l.store.parts ≡ l.fn.store.parts)
    × Known l.store
    × Stays l.fn.pass l.fn.store l.pass l.store

use Rattle.std.proofs.Common.{◌≡◌, ℕ, true}
use Rattle.xdg_pagree.proofs.Bringing.{Brings}
use Rattle.xdg_pagree.proofs.mothers.mothers_of.Given as goal
use Rattle.xdg_facts.specs.Rises.{has}

abbrev pub invariant-loop-daughter : goal.invariant-loop-daughter
invariant-loop-daughter l =
    (goal.iterator-loop-daughter).can_next l.daughter-iterator
    × (goal.iterator-loop-daughter).is_finite l.daughter-iterator
    × ((v : ℕ) → has l.daughter-iterator v ≡ true → has l.initial.daughter-iterator v ≡ true)
    × Brings l.store.parts l.store.now l.dim.0 l.label.0 l.initial.daughter-iterator l.daughter-iterator l.mothers

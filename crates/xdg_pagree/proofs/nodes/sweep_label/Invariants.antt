use Rattle.std.proofs.Common.{◌≡◌, ℕ, true}
use Rattle.xdg_propcore.specs.Sweeps.{Sweeps}
use Rattle.xdg_pagree.specs.Places.{IsLabelDone, PlaceAsks}
use Rattle.xdg_propcore.proofs.Turns.{AreDone}
use Rattle.xdg_pagree.proofs.nodes.sweep_label.Given as goal
use Rattle.xdg_facts.specs.Rises.{has}

abbrev pub invariant-loop-mother : goal.invariant-loop-mother
invariant-loop-mother l =
    (goal.iterator-loop-mother).can_next l.mother-iterator
    × (goal.iterator-loop-mother).is_finite l.mother-iterator
    × ((v : ℕ) → has l.mother-iterator v ≡ true → has l.initial.mother-iterator v ≡ true)
    × Sweeps l.group (AreDone (λ u box. PlaceAsks l.group.principle l.group box u l.label.0 → IsLabelDone l.initial.store.parts l.group u l.label.0 box) l.initial.mother-iterator l.mother-iterator) l.initial.pass l.initial.store l.pass l.store

use Rattle.std.proofs.Common.{◌≡◌, map}
use Rattle.xdg_check.specs.Counts.{Counting, Agrees, bare, uses, combos}
use Rattle.xdg_check.specs.Filled.{AreFilled}
use Rattle.xdg_check.proofs.filling.fill_counts.Given as goal

abbrev pub invariant-loop-place : goal.invariant-loop-place
invariant-loop-place l =
    (map bare l.classes ≡ map bare l.initial.classes)
    × (((names : Counting) → Agrees uses l.initial.classes names → AreFilled (λ c. c.uses) names l.classes l.order l.place-index)
    × ((names : Counting) → Agrees combos l.initial.classes names → AreFilled (λ c. c.combos) names l.classes l.order l.place-index))

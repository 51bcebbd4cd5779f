use Rattle.std.proofs.Common.{◌≡◌, ◌<◌, ◌/◌, ℕ, length, get_or}
use Rattle.xdg_problem.specs.Arguments.{no_plan}
use Rattle.xdg_store.specs.Labels.{AreFirst, at_place}
use Rattle.xdg_store.proofs.labels.label_all.Given as goal

abbrev pub invariant-loop-at : goal.invariant-loop-at
invariant-loop-at l =
    (length l.into.items ≡ length l.fn.into.items)
    × ((k : ℕ) → k < l.at → AreFirst l.nodes (get_or l.dims (k / l.nodes) no_plan) (at_place l.into.items k))

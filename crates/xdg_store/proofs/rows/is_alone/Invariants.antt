use Rattle.std.proofs.Common.{◌≡◌, ◌<◌, ◌+◌, ℕ, true}
use Rattle.xdg_store.specs.Layout.{is_set}
use Rattle.xdg_store.proofs.rows.is_alone.Given as goal

abbrev pub invariant-loop-value : goal.invariant-loop-value
invariant-loop-value l = (x : ℕ) → x < l.value → is_set l.trail.words (l.start + x) ≡ true → ⊥

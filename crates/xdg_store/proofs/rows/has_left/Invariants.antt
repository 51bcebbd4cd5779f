use Rattle.std.proofs.Common.{◌≡◌, ◌<◌, ◌+◌, ◌*◌, ℕ, true}
use Rattle.xdg_store.specs.Change.{IsTaken}
use Rattle.xdg_store.specs.Layout.{is_set}
use Rattle.xdg_store.proofs.rows.has_left.Given as goal

abbrev pub invariant-loop-place : goal.invariant-loop-place
invariant-loop-place l = (x : ℕ) → x < l.place * 64 → x < l.size → (IsTaken l.block l.taken x → ⊥) → is_set l.trail.words (l.start + x) ≡ true → ⊥

use Rattle.std.proofs.Common.{ℕ, ◌<◌}
use Rattle.xdg_porder.specs.Items.{MustOwn}
use Rattle.xdg_porder.proofs.items.is_own_decided.Given as goal

abbrev pub invariant-loop-value : goal.invariant-loop-value
invariant-loop-value l = (x : ℕ) → x < l.value → MustOwn l.store.parts l.group l.store.now l.u.0 x → ⊥

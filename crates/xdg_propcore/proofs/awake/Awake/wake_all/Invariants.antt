use Rattle.std.proofs.Common.{◌≡◌, ℕ, ◌<◌, length}
use Rattle.xdg_propcore.specs.Flags.{IsOn}
use Rattle.xdg_propcore.proofs.awake.Awake.wake_all.Given as goal

abbrev pub invariant-loop-at : goal.invariant-loop-at
invariant-loop-at l = (length l.self ≡ length l.fn.self) × ((at : ℕ) → at < l.at → IsOn l.self at)

use Rattle.std.proofs.Common.{◌<◌, ◌*◌, ℕ, [], length, get_or}
use Rattle.xdg_store.specs.Singles.{IsAlone}
use Rattle.xdg_store.proofs.single.are_entries_alone.Given as goal

abbrev pub invariant-loop-node : goal.invariant-loop-node
invariant-loop-node l = (k : ℕ) → k < l.node → IsAlone l.trail.words (k * 1024) (length (get_or l.candidates k []))

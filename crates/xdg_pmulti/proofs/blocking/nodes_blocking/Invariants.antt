use Rattle.std.proofs.Common.{◌≡◌, ℕ, ◌<◌, ◌↔◌, true}
use Rattle.xdg_pmulti.specs.Aims.{Blocks}
use Rattle.xdg_pmulti.proofs.blocking.nodes_blocking.Given as goal
use Rattle.xdg_facts.specs.Rises.{has}

abbrev pub invariant-loop-node : goal.invariant-loop-node
invariant-loop-node l = (x : ℕ) → (has l.set x ≡ true) ↔ ((x < l.node) × Blocks l.group l.store.now x l.label.0)

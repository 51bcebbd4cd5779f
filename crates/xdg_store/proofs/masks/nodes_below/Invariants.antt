use Rattle.std.proofs.Common.{◌≡◌, ℕ, nat_lt}
use Rattle.xdg_store.proofs.masks.nodes_below.Given as goal
use Rattle.xdg_facts.specs.Rises.{has}

abbrev pub invariant-loop-node : goal.invariant-loop-node
invariant-loop-node l = (n : ℕ) → has l.nodes n ≡ nat_lt n l.node

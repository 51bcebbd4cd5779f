use Rattle.std.proofs.Common.{◌≡◌, ◌≤◌, length}
use Rattle.xdg_problem.specs.Paths.{edges_on, roots}
use Rattle.xdg_judge.proofs.counts.count_roots.Given as goal

abbrev pub invariant-loop-node : goal.invariant-loop-node
invariant-loop-node l = (l.count ≡ length (roots l.node (edges_on l.dim l.edges))) × (l.count ≤ l.node)

use Rattle.std.proofs.Common.{◌<◌, ◌+◌, ◌*◌, ◌/◌, ◌%◌, ℕ, get_or}
use Rattle.xdg_problem.specs.Arguments.{no_plan}
use Rattle.xdg_store.specs.Singles.{IsNodeAlone}
use Rattle.xdg_store.proofs.single.are_nodes_alone.Given as goal

abbrev pub invariant-loop-at : goal.invariant-loop-at
invariant-loop-at l = (k : ℕ) → k < l.at → IsNodeAlone l.trail.words (get_or l.dims (k / l.nodes) no_plan) (l.nodes * 1024 + k * 16384) l.nodes (k % l.nodes)

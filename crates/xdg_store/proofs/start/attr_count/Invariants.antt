use Rattle.std.proofs.Common.{◌≡◌, ◌≤◌, ◌*◌, length, take}
use Rattle.xdg_problem.specs.Vectors.{attr_sizes}
use Rattle.xdg_store.proofs.start.attr_count.Given as goal

abbrev pub invariant-loop-plan : goal.invariant-loop-plan
invariant-loop-plan l = (l.count ≡ length (attr_sizes l.nodes (take l.plan-index l.dims))) × (l.count ≤ l.plan-index * 1024)

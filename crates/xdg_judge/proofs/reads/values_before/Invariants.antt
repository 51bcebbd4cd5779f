use Rattle.std.proofs.Common.{◌≡◌, ◌≤◌, ◌*◌, length, take}
use Rattle.xdg_problem.specs.Vectors.{attr_sizes}
use Rattle.xdg_judge.proofs.reads.values_before.Given as goal

abbrev pub invariant-loop-k : goal.invariant-loop-k
invariant-loop-k l = record {
  value : l.total ≡ length (attr_sizes l.nodes (take l.k l.dims));
  small : l.total ≤ l.k * 1024;
  within : l.k ≤ l.dim;
}

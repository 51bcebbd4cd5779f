use Rattle.std.proofs.Common.{◌↔◌, ◌≤◌, length, drop}
use Rattle.xdg_problem.specs.Analyses.{Before}
use Rattle.xdg_problem.specs.EdgeOrder.{EdgesLess}
use Rattle.xdg_problem.proofs.comparing.edges_less.Given as goal

abbrev pub invariant-loop-k : goal.invariant-loop-k
invariant-loop-k l = record {
  rest : EdgesLess Before (drop l.k l.a) (drop l.k l.b) ↔ EdgesLess Before l.a l.b;
  room : l.k ≤ length l.b;
}

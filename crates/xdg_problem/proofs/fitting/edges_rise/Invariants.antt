use Rattle.std.proofs.Common.{◌↔◌, drop}
use Rattle.xdg_problem.specs.Analyses.{EdgesRise}
use Rattle.xdg_problem.proofs.fitting.edges_rise.Given as goal

abbrev pub invariant-loop-at : goal.invariant-loop-at
invariant-loop-at l = EdgesRise (drop l.at l.edges) ↔ EdgesRise l.edges

use Rattle.std.proofs.Common.{◌↔◌, drop}
use Rattle.xdg_problem.specs.Values.{AreValues}
use Rattle.xdg_problem.proofs.fitting.values_fit.Given as goal

abbrev pub invariant-loop-plan : goal.invariant-loop-plan
invariant-loop-plan l = AreValues l.nodes (drop l.plan-index l.dims) l.rest ↔ AreValues l.nodes l.dims l.values

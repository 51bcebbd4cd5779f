use Rattle.std.proofs.Common.{take}
use Rattle.std.specs.Prelude.{All}
use Rattle.xdg_problem.specs.Analyses.{IsPlace}
use Rattle.xdg_problem.proofs.fitting.all_may_stand.Given as goal

abbrev pub invariant-loop-edge : goal.invariant-loop-edge
invariant-loop-edge l = All (IsPlace l.parts) (take l.edge-index l.edges)

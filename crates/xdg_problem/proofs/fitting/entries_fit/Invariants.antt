use Rattle.std.proofs.Common.{◌↔◌, drop}
use Rattle.xdg_problem.specs.Analyses.{HasCandidates}
use Rattle.xdg_problem.proofs.fitting.entries_fit.Given as goal

abbrev pub invariant-loop-k : goal.invariant-loop-k
invariant-loop-k l = HasCandidates (drop l.k l.candidates) (drop l.k l.entries) ↔ HasCandidates l.candidates l.entries

use Rattle.std.proofs.Common.{◌↔◌, drop}
use Rattle.std.specs.Prelude.{Contains}
use Rattle.xdg_problem.proofs.fitting.is_candidate.Given as goal

abbrev pub invariant-loop-candidate : goal.invariant-loop-candidate
invariant-loop-candidate l = Contains (drop l.candidate-index l.candidates) l.entry ↔ Contains l.candidates l.entry

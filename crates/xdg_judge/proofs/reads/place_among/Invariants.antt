use Rattle.std.proofs.Common.{◌≡◌, ◌+◌, drop}
use Rattle.xdg_problem.specs.Vectors.{place_among}
use Rattle.xdg_judge.proofs.reads.place_among.Given as goal

abbrev pub invariant-loop-k : goal.invariant-loop-k
invariant-loop-k l = place_among (drop l.k l.candidates) l.initial.entry + l.k ≡ place_among l.candidates l.initial.entry

use Rattle.std.proofs.Common.{◌≡◌, ◌+◌, drop}
use Rattle.xdg_problem.specs.Vectors.{place_among}
use Rattle.xdg_stream.proofs.starting.place_of.Given as goal

abbrev pub invariant-loop-place : goal.invariant-loop-place
invariant-loop-place l = place_among l.candidates l.entry ≡ l.place + place_among (drop l.place l.candidates) l.entry

use Rattle.std.proofs.Common.{◌≡◌, length}
use Rattle.xdg_io.specs.Held.{WrittenSoFar}
use Rattle.xdg_io.proofs.sink.write_all.Given as goal

abbrev pub invariant-loop-rest : goal.invariant-loop-rest
invariant-loop-rest g l =
    WrittenSoFar (g.K.Sink.held l.initial.sink) (g.K.Sink.held l.sink) l.piece l.rest
    × (g.K.Sink.faults l.sink ≡ g.K.Sink.faults l.initial.sink)

abbrev pub decreases-loop-rest : goal.decreases-loop-rest
decreases-loop-rest g l = length l.rest

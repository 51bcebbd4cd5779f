use Rattle.std.proofs.Common.{drop}
use Rattle.std.specs.List.{flat_map}
use Rattle.xdg_io.proofs.Parts.{Resumes}
use Rattle.xdg_text.specs.Constants.{escaped}
use Rattle.xdg_text.proofs.constants.write_escaped_bytes.Given as goal

abbrev pub invariant-loop-byte : goal.invariant-loop-byte
invariant-loop-byte g l =
    Resumes (g.K.Sink.held l.initial.sink) (g.K.Sink.held l.sink) (g.K.Sink.faults l.initial.sink) (g.K.Sink.faults l.sink) (flat_map escaped l.bytes) (flat_map escaped (drop l.byte-index l.bytes))

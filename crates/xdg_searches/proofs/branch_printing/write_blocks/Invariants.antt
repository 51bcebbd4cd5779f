use Rattle.std.proofs.Common.{◌+◌, drop}
use Rattle.xdg_split.specs.Printed.{blocks}
use Rattle.xdg_io.proofs.Parts.{Resumes}
use Rattle.xdg_searches.proofs.branch_printing.write_blocks.Given as goal

abbrev pub invariant-loop-place : goal.invariant-loop-place
invariant-loop-place g l =
    Resumes (g.K.Sink.held l.initial.sink) (g.K.Sink.held l.sink) (g.K.Sink.faults l.initial.sink) (g.K.Sink.faults l.sink) (blocks l.form l.problem 1 l.found) (blocks l.form l.problem (l.place + 1) (drop l.place l.found))

use Rattle.std.proofs.Common.{drop}
use Rattle.xdg_io.proofs.Parts.{Resumes}
use Rattle.xdg_text.specs.Blocks.{attr_lines}
use Rattle.xdg_text.specs.Ranges.{DimsHaveValues}
use Rattle.xdg_text.proofs.blocks.write_attr_lines.Given as goal

abbrev pub invariant-loop-dim : goal.invariant-loop-dim
invariant-loop-dim g l =
    Resumes (g.K.Sink.held l.initial.sink) (g.K.Sink.held l.sink) (g.K.Sink.faults l.initial.sink) (g.K.Sink.faults l.sink) (attr_lines l.nodes l.dims l.values) (attr_lines l.nodes (drop l.dim-index l.dims) l.rest)
    × DimsHaveValues l.nodes (drop l.dim-index l.dims) l.rest

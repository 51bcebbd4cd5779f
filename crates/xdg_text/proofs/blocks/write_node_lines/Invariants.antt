use Rattle.std.proofs.Common.{drop}
use Rattle.xdg_io.proofs.Parts.{Resumes}
use Rattle.xdg_text.specs.Blocks.{node_lines}
use Rattle.xdg_text.proofs.blocks.write_node_lines.Given as goal

abbrev pub invariant-loop-at : goal.invariant-loop-at
invariant-loop-at g l =
    Resumes (g.K.Sink.held l.initial.sink) (g.K.Sink.held l.sink) (g.K.Sink.faults l.initial.sink) (g.K.Sink.faults l.sink) (node_lines l.dim l.node l.attrs l.values) (node_lines l.dim l.node (drop l.at l.attrs) (drop l.at l.values))

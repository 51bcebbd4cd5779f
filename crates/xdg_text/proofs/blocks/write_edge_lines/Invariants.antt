use Rattle.std.proofs.Common.{drop}
use Rattle.std.specs.List.{flat_map}
use Rattle.xdg_io.proofs.Parts.{Resumes}
use Rattle.xdg_text.specs.Blocks.{line_of_edge}
use Rattle.xdg_text.proofs.blocks.write_edge_lines.Given as goal

abbrev pub invariant-loop-edge : goal.invariant-loop-edge
invariant-loop-edge g l =
    Resumes (g.K.Sink.held l.initial.sink) (g.K.Sink.held l.sink) (g.K.Sink.faults l.initial.sink) (g.K.Sink.faults l.sink) (flat_map (line_of_edge l.dims) l.edges) (flat_map (line_of_edge l.dims) (drop l.edge-index l.edges))

use Rattle.std.proofs.Common.{◌-◌}
use Rattle.xdg_io.proofs.Parts.{Resumes}
use Rattle.xdg_text.specs.Blocks.{dim_lines}
use Rattle.xdg_text.specs.Ranges.{NodesHaveValues}
use Rattle.xdg_text.proofs.blocks.write_dim_lines.Given as goal

abbrev pub invariant-loop-node : goal.invariant-loop-node
invariant-loop-node g l =
    Resumes (g.K.Sink.held l.initial.sink) (g.K.Sink.held l.sink) (g.K.Sink.faults l.initial.sink) (g.K.Sink.faults l.sink) (dim_lines l.dim 0 l.nodes l.values) (dim_lines l.dim l.node (l.nodes - l.node) l.rest)
    × NodesHaveValues l.dim.attrs (l.nodes - l.node) l.rest

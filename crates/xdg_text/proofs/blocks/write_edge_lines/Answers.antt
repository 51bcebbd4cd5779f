use Rattle.std.proofs.Common.{get_or}
use Rattle.std.proofs.lemmas.List.{get_or_default}
use Rattle.xdg_io.proofs.Parts.{next_of, stop_of}
use Rattle.xdg_problem.specs.Places.{edge}
use Rattle.xdg_text.specs.Blocks.{line_of_edge}
use Rattle.xdg_text.proofs.blocks.write_edge_lines.Goals as goal

pub returns-in_err-write_edge_line : goal.returns-in_err-write_edge_line
returns-in_err-write_edge_line g c = stop_of (line_of_edge c.args.dims.now) c.args.edges.now c.loop-edge.edge-index (get_or c.args.edges.now c.loop-edge.edge-index (edge 0 0 0 0)) c.loop-edge-test.true (get_or_default _ _ _ _ c.loop-edge-test.true) c.loop-edge.invariant c.from_residual.ensures.0 c.in_err-write_edge_line.ensures

pub loop-edge-preserved : goal.loop-edge-preserved
loop-edge-preserved g c = next_of (line_of_edge c.args.dims.now) c.args.edges.now c.loop-edge.edge-index (get_or c.args.edges.now c.loop-edge.edge-index (edge 0 0 0 0)) c.loop-edge-test.true (get_or_default _ _ _ _ c.loop-edge-test.true) c.loop-edge.invariant c.in_ok-write_edge_line.ensures

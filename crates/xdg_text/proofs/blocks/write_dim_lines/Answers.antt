use Rattle.std.proofs.Common.{◌≡◌, ◌-◌, refl, ap, arith}
use Rattle.xdg_io.proofs.Parts.{next_by, stop_by, ends}
use Rattle.xdg_text.specs.Blocks.{dim_lines}
use Rattle.xdg_text.proofs.Rests.{nodes_from, nodes_values, values_length}
use Rattle.xdg_text.proofs.blocks.write_dim_lines.Goals as goal

pub returns-in_err-write_node_lines : goal.returns-in_err-write_node_lines
returns-in_err-write_node_lines g c = stop_by _ (nodes_from c.args.dim.now c.args.nodes c.loop-node.node c.loop-node.rest.now c.as_slice-attrs.result.now _ c.as_slice-attrs.ensures refl c.loop-node-test.true) c.loop-node.invariant.0 c.from_residual.ensures.0 c.in_err-write_node_lines.ensures

pub split_at-requires : goal.split_at-requires
split_at-requires g c = values_length c.as_slice-attrs.result.now c.loop-node.rest.now (nodes_values c.args.dim.now c.args.nodes c.loop-node.node c.loop-node.rest.now c.as_slice-attrs.result.now _ c.as_slice-attrs.ensures refl c.loop-node-test.true c.loop-node.invariant.1).0

pub loop-node-preserved : goal.loop-node-preserved
loop-node-preserved g c =
    let values = nodes_values c.args.dim.now c.args.nodes c.loop-node.node c.loop-node.rest.now c.as_slice-attrs.result.now c.split_at.result.1.now c.as_slice-attrs.ensures c.split_at.ensures.back c.loop-node-test.true c.loop-node.invariant.1 in (
      next_by (nodes_from c.args.dim.now c.args.nodes c.loop-node.node c.loop-node.rest.now c.as_slice-attrs.result.now c.split_at.result.1.now c.as_slice-attrs.ensures c.split_at.ensures.back c.loop-node-test.true) c.loop-node.invariant.0 c.in_ok-write_node_lines.ensures,
      values.1,
    )

pub returns : goal.returns
returns g c =
    let none : c.args.nodes - c.loop-node.node ≡ 0 = omega (arith, c.loop-node-test.false) in
    ends c.loop-node.invariant.0 (ap (λ left. dim_lines c.args.dim.now c.loop-node.node left c.loop-node.rest.now) none)

use Rattle.std.proofs.Common.{refl, ap}
use Rattle.std.proofs.lemmas.List.{drop_all}
use Rattle.xdg_io.proofs.Parts.{next_by, stop_by, ends}
use Rattle.xdg_text.specs.Blocks.{attr_lines}
use Rattle.xdg_text.proofs.Rests.{dims_from, dims_values, nodes_length}
use Rattle.xdg_text.proofs.blocks.write_attr_lines.Goals as goal

pub returns-in_err-write_dim_lines : goal.returns-in_err-write_dim_lines
returns-in_err-write_dim_lines g c = stop_by _ (dims_from c.args.nodes c.args.dims.now c.loop-dim.dim-index c.dim-item.result c.loop-dim.rest.now _ _ c.loop-dim-test.true c.dim-item.is refl refl) c.loop-dim.invariant.0 c.from_residual.ensures.0 c.in_err-write_dim_lines.ensures

pub split_at-requires : goal.split_at-requires
split_at-requires g c =
    let values = dims_values c.args.nodes c.args.dims.now c.loop-dim.dim-index c.dim-item.result c.loop-dim.rest.now _ _ c.loop-dim-test.true c.dim-item.is refl refl c.loop-dim.invariant.1 in
    rw c.len.ensures (nodes_length c.dim-item.result.attrs c.args.nodes c.loop-dim.rest.now values.0)

pub loop-dim-preserved : goal.loop-dim-preserved
loop-dim-preserved g c =
    let values = dims_values c.args.nodes c.args.dims.now c.loop-dim.dim-index c.dim-item.result c.loop-dim.rest.now c.len.result c.split_at.result.1.now c.loop-dim-test.true c.dim-item.is c.len.ensures c.split_at.ensures.back c.loop-dim.invariant.1 in (
      next_by (dims_from c.args.nodes c.args.dims.now c.loop-dim.dim-index c.dim-item.result c.loop-dim.rest.now c.len.result c.split_at.result.1.now c.loop-dim-test.true c.dim-item.is c.len.ensures c.split_at.ensures.back) c.loop-dim.invariant.0 c.in_ok-write_dim_lines.ensures,
      values.1,
    )

pub returns : goal.returns
returns g c = ends c.loop-dim.invariant.0 (ap (λ dims. attr_lines c.args.nodes dims c.loop-dim.rest.now) (drop_all c.loop-dim.dim-index c.args.dims.now c.loop-dim-test.false))

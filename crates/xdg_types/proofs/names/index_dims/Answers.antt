use Rattle.xdg_types.specs.declared.table.DimType.{DimType}
use Rattle.xdg_types.proofs.Made.{name_added}
use Rattle.xdg_types.proofs.names.index_dims.Goals as goal

pub loop-dim-preserved : goal.loop-dim-preserved
loop-dim-preserved c = name_added (λ (dim : DimType). dim.name) c.args.dims.now c.loop-dim.dim-index c.dim-item.result _ _ _ _ c.requires c.loop-dim-test.true c.dim-item.is c.as_str.ensures c.in_ok-add.ensures.new c.in_ok-add.ensures.ok c.loop-dim.invariant

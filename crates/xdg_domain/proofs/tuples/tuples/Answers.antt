use Rattle.std.proofs.Common.{arith, ◌-◌, ◌^◌}
use Rattle.xdg_domain.proofs.Sizing.{tuples_more, tuples_done}
use Rattle.xdg_domain.proofs.tuples.tuples.Goals as goal

pub loop-field-preserved : goal.loop-field-preserved
loop-field-preserved c = (
  omega arith,
  tuples_more c.args.fields.now c.loop-field.field-index c.field-item.result c.loop-field.product c.size.result c.saturating_mul-product.result (2 ^ 64 - 1) _ c.loop-field-test.true c.field-item.is c.size.ensures.size c.saturating_mul-product.ensures c.loop-field.invariant.1,
)

pub returns : goal.returns
returns c = let t = c.loop-field-test.false in
    tuples_done c.args.fields.now c.loop-field.field-index c.loop-field.product (2 ^ 64 - 1) _ (omega arith) c.loop-field.invariant.0 c.loop-field.invariant.1

use Rattle.std.proofs.Common.{◌∙◌}
use Rattle.xdg_typing.specs.Weights.{named_weight}
use Rattle.xdg_typing.proofs.Weighed.{tuple_weighed, record_weighed}
use Rattle.xdg_typing.proofs.weights.+weigh.Goals as goal

pub returns-after-loop-field : goal.returns-after-loop-field
returns-after-loop-field t c =
    c.saturating_add-in-Tuple.ensures ∙ tuple_weighed (named_weight c.args.names.now c.args.weights.now) c.args.ty.now c.in-Tuple.fields c.as_slice-field-items.result.now c.loop-field.field-index c.loop-field.all
    c.in-Tuple.is c.as_slice-field-items.ensures c.loop-field-test.false c.loop-field.invariant

pub returns-after-loop-pair : goal.returns-after-loop-pair
returns-after-loop-pair t c =
    c.saturating_add-in-Rec.ensures ∙ record_weighed (named_weight c.args.names.now c.args.weights.now) c.args.ty.now c.in-Rec.pairs c.as_slice-pair-items.result.now c.loop-pair.pair-index c.loop-pair.all
    c.in-Rec.is c.as_slice-pair-items.ensures c.loop-pair-test.false c.loop-pair.invariant

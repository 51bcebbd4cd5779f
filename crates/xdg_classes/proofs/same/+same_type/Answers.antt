use Rattle.xdg_classes.proofs.Sameness.{same_records}
use Rattle.xdg_classes.proofs.same.+same_type.Goals as goal

pub same_type-returns-in-Rec-Rec : goal.same_type-returns-in-Rec-Rec
same_type-returns-in-Rec-Rec t c h =
    same_records c.args.one.now c.args.other.now c.in-Rec-Rec.fields c.in-Rec-Rec.others c.as_slice-in-Rec-Rec.result.now c.as_slice-in-Rec-Rec-2.result.now c.in-Rec-Rec.is-0 c.in-Rec-Rec.is-1 c.as_slice-in-Rec-Rec.ensures c.as_slice-in-Rec-Rec-2.ensures (c.same_fields.ensures h)

use Rattle.xdg_typing.specs.KindFaults.{record_faults}
use Rattle.xdg_typing.proofs.Layers.{tree_rec}
use Rattle.xdg_typing.proofs.Walked.{of_form}
use Rattle.xdg_typing.proofs.attributes.check_record.Goals as goal

pub returns-in-Rec : goal.returns-in-Rec
returns-in-Rec c = λ names known. of_form (record_faults names c.args.ty.now.span.start) _ _ _ (tree_rec _ _ _ c.in-Rec.is c.as_slice.ensures) c.check_ninth.ensures

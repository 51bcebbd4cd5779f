use Rattle.xdg_types.specs.Kinds.{inside_attributes}
use Rattle.xdg_typing.specs.KindFaults.{faults_in}
use Rattle.xdg_typing.proofs.Layers.{tree_rec}
use Rattle.xdg_typing.proofs.Walked.{ok_of_form}
use Rattle.xdg_typing.proofs.kinds.check_inside_attributes.Goals as goal

pub returns-in-Rec : goal.returns-in-Rec
returns-in-Rec c = λ names known. ok_of_form _ (λ t. faults_in names (inside_attributes t)) _ _ (tree_rec _ _ _ c.in-Rec.is c.as_slice.ensures) (c.check_members.ensures names known)

use Rattle.xdg_typing.specs.KindFaults.{shared_faults}
use Rattle.xdg_typing.proofs.Layers.{tree_tuple}
use Rattle.xdg_typing.proofs.Walked.{ok_of_form}
use Rattle.xdg_typing.proofs.shared.check_shared.Goals as goal

pub returns-in-Tuple : goal.returns-in-Tuple
returns-in-Tuple c = λ names known. ok_of_form _ (shared_faults names) _ _ (tree_tuple _ _ _ c.in-Tuple.is c.as_slice.ensures) (c.check_fields.ensures names known)

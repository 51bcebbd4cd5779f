use Rattle.xdg_typing.proofs.Walked.{kind_found}
use Rattle.xdg_typing.proofs.walk.check_kind.Goals as goal

pub returns : goal.returns
returns c = λ names known. kind_found names _ _ _ _ _ _ (c.is_of_kind.ensures names known) c.has_no_field.ensures c.check_right.ensures

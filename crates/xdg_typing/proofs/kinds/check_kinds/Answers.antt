use Rattle.xdg_typing.proofs.KindLaw.{both_tell}
use Rattle.xdg_typing.proofs.kinds.check_kinds.Goals as goal

pub returns : goal.returns
returns c = λ names known. both_tell names _ _ _ _ c.check_uses.ensures (c.in_ok-in_types.ensures names known) c.earlier.ensures

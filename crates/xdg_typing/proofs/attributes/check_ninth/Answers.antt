use Rattle.xdg_typing.proofs.Members.{ninth_found, ninth_missing}
use Rattle.xdg_typing.proofs.attributes.check_ninth.Goals as goal

pub returns-in-Some : goal.returns-in-Some
returns-in-Some c = ninth_found _ _ c.in-Some.ensures.lookup.3.0 c.in-Some.ensures.lookup.1

pub returns-in-None : goal.returns-in-None
returns-in-None c = ninth_missing _ c.in-None.ensures.lookup.3

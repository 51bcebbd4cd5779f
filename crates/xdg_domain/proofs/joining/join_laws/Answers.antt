use Rattle.xdg_domain.proofs.JoinLaws.{lawful}
use Rattle.xdg_domain.proofs.joining.join_laws.Goals as goal

pub returns : goal.returns
returns c = lawful

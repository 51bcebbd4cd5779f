use Rattle.xdg_domain.proofs.Numbers.{either_told}
use Rattle.xdg_domain.proofs.joining.in_either.Goals as goal

pub returns : goal.returns
returns c = either_told c.args.one.now c.args.other.now c.union.result c.union.ensures.members c.union.ensures.rising

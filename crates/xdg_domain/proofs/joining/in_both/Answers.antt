use Rattle.xdg_domain.proofs.Numbers.{both_told}
use Rattle.xdg_domain.proofs.joining.in_both.Goals as goal

pub returns : goal.returns
returns c = both_told c.args.one.now c.args.other.now c.meet.result c.meet.ensures.members c.meet.ensures.rising

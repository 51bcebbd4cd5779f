use Rattle.xdg_domain.proofs.Numbers.{valency_none, valency_some}
use Rattle.xdg_domain.proofs.joining.join_valencies.Goals as goal

pub returns-in-None : goal.returns-in-None
returns-in-None c = valency_none c.args.one.now c.args.other.now c.rises.ensures c.rises-2.ensures (rw c.in-None.is at c.in_ok-join.ensures)

pub returns-in-Some : goal.returns-in-Some
returns-in-Some c = valency_some c.args.one.now c.args.other.now c.in-Some.made c.rises.ensures c.rises-2.ensures c.rises-in-Some.ensures (rw c.in-Some.is at c.in_ok-join.ensures)

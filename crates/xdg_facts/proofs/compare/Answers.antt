use Rattle.std.proofs.Common.{subst, sym}
use Rattle.xdg_facts.proofs.Ordered.{less_order}
use Rattle.xdg_facts.proofs.Compared.{Tells, compared, tells_less, tells_equal, tells_greater}
use Rattle.xdg_facts.proofs.compare.Goals as goal

pub returns-clause-less : goal.returns-clause-less
returns-clause-less c = tells_less _ _ _ (subst (λ o. Tells o c.args.first.now c.args.second.now) (sym c.cmp.ensures) (compared c.args.first.now c.args.second.now))

pub returns-clause-equal : goal.returns-clause-equal
returns-clause-equal c = tells_equal _ _ _ (subst (λ o. Tells o c.args.first.now c.args.second.now) (sym c.cmp.ensures) (compared c.args.first.now c.args.second.now))

pub returns-clause-greater : goal.returns-clause-greater
returns-clause-greater c = tells_greater _ _ _ (subst (λ o. Tells o c.args.first.now c.args.second.now) (sym c.cmp.ensures) (compared c.args.first.now c.args.second.now))

pub returns-clause-order : goal.returns-clause-order
returns-clause-order c = less_order

use Rattle.xdg_domain.proofs.cards.CardSet.least.Goals as goal
use Rattle.xdg_facts.proofs.BitMembers.{least_bit}

pub returns : goal.returns
returns c = let b = least_bit c.self.inside.bits c.self.invariant.0 c.self.invariant.1 in rw (← c.self.view_is) (record { member = b.0; least = b.1; below = b.2 })

use Rattle.xdg_domain.proofs.cards.CardSet.greatest.Goals as goal
use Rattle.xdg_facts.proofs.BitMembers.{greatest_bit}

pub returns : goal.returns
returns c = let b = greatest_bit c.self.inside.bits c.self.invariant.0 c.self.invariant.1 in rw (← c.self.view_is) (record { member = b.0; greatest = b.1; below = b.2 })

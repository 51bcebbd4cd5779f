use Rattle.xdg_facts.proofs.BitMembers.{equal_bits}
use Rattle.xdg_domain.proofs.cards.CardSet.equals.Goals as goal

pub returns : goal.returns
returns c = rw (← c.self.view_is, ← c.other.view_is) (equal_bits c.self.inside.bits c.other.inside.bits c.self.invariant.1 c.other.invariant.1)

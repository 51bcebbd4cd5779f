use Rattle.std.proofs.Common.{ap, ap₂, sym, ◌∙◌, arith, bit_and}
use Rattle.xdg_domain.specs.Cards.{common}
use Rattle.xdg_domain.proofs.Masks.{common_bits, members_are_cards}
use Rattle.xdg_domain.proofs.cards.CardSet.meet.Goals as goal
use Rattle.xdg_facts.specs.BitSets.{members}
use Rattle.xdg_facts.proofs.BitMembers.{empty_bits, and_within}

pub returns-then-bits-eq0 : goal.returns-then-bits-eq0
returns-then-bits-eq0 c = sym (ap₂ common c.self.view_is c.other.view_is) ∙ sym (common_bits c.self.inside.bits c.other.inside.bits) ∙ ap members c.if-bits-eq0.true ∙ empty_bits

pub returns : goal.returns
returns c = (
  common_bits c.self.inside.bits c.other.inside.bits ∙ ap₂ common c.self.view_is c.other.view_is,
  members_are_cards (bit_and c.self.inside.bits c.other.inside.bits) (omega (arith, c.if-bits-eq0.false)) (and_within c.self.inside.bits c.other.inside.bits c.self.invariant.1),
)

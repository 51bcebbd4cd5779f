use Rattle.std.proofs.Common.{◌*◌, ◌%◌, ◌^◌, ap, ◌∙◌, bit_or}
use Rattle.xdg_domain.specs.Cards.{with_card}
use Rattle.xdg_domain.proofs.Masks.{members_are_cards, with_has}
use Rattle.xdg_facts.proofs.BitMembers.{with_bits, with_within}
use Rattle.xdg_domain.proofs.cards.CardSet.with.Goals as goal

pub invariant_of-result : goal.invariant_of-result
invariant_of-result c = with_within c.self.inside.bits c.args.number c.requires c.self.invariant.0 c.self.invariant.1

pub returns-clause-value : goal.returns-clause-value
returns-clause-value c = with_bits c.self.inside.bits c.args.number c.requires ∙ ap (λ s. with_card s c.args.number) c.self.view_is

pub returns-clause-members : goal.returns-clause-members
returns-clause-members c = rw (with_bits c.self.inside.bits c.args.number c.requires, ← c.self.view_is) (with_has c.self.inside.bits c.args.number c.requires)

pub returns-clause-cards : goal.returns-clause-cards
returns-clause-cards c =
    let within = with_within c.self.inside.bits c.args.number c.requires c.self.invariant.0 c.self.invariant.1 in
    members_are_cards (bit_or c.self.inside.bits (1 * 2 ^ c.args.number % 2 ^ 128)) within.0 within.1

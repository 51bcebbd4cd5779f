use Rattle.std.proofs.Common.{ap, ◌∙◌, arith}
use Rattle.xdg_domain.proofs.Masks.{members_are_cards}
use Rattle.xdg_domain.proofs.cards.CardSet.contains.Goals as goal
use Rattle.xdg_facts.specs.Rises.{has}
use Rattle.xdg_facts.proofs.BitMembers.{contains_bits, none_beyond}

pub returns-then-number-ge128-clause-value : goal.returns-then-number-ge128-clause-value
returns-then-number-ge128-clause-value c = none_beyond c.self.inside.bits c.args.number (omega (arith, c.if-number-ge128.true)) ∙ ap (λ s. has s c.args.number) c.self.view_is

pub returns-then-number-ge128-clause-cards : goal.returns-then-number-ge128-clause-cards
returns-then-number-ge128-clause-cards c = rw (← c.self.view_is) (members_are_cards c.self.inside.bits c.self.invariant.0 c.self.invariant.1)

pub returns-clause-value : goal.returns-clause-value
returns-clause-value c = contains_bits c.self.inside.bits c.args.number (omega (arith, c.if-number-ge128.false)) ∙ ap (λ s. has s c.args.number) c.self.view_is

pub returns-clause-cards : goal.returns-clause-cards
returns-clause-cards c = rw (← c.self.view_is) (members_are_cards c.self.inside.bits c.self.invariant.0 c.self.invariant.1)

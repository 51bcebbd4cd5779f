use Rattle.xdg_domain.proofs.Masks.{members_are_cards, all_bits, all_has}
use Rattle.std.proofs.Common.{◌-◌, ◌^◌, ap, ◌∙◌, arith}
use Rattle.xdg_domain.proofs.cards.CardSet.all.Goals as goal
use Rattle.xdg_facts.specs.Rises.{has}

pub returns : goal.returns
returns c = record { value = all_bits; members = λ n. ap (λ s. has s n) all_bits ∙ all_has n; cards = members_are_cards (2 ^ 128 - 1) (omega arith) (omega arith) }

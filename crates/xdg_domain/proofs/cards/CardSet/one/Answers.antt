use Rattle.std.proofs.Common.{◌*◌, ◌%◌, ◌^◌}
use Rattle.xdg_domain.proofs.Masks.{members_are_cards}
use Rattle.xdg_domain.proofs.cards.CardSet.one.Goals as goal
use Rattle.xdg_facts.proofs.BitMembers.{one_bits, one_within}

pub invariant_of-result : goal.invariant_of-result
invariant_of-result c = one_within c.args.number c.requires

pub returns : goal.returns
returns c = let within = one_within c.args.number c.requires in record { value = one_bits c.args.number c.requires; cards = members_are_cards (1 * 2 ^ c.args.number % 2 ^ 128) within.0 within.1 }

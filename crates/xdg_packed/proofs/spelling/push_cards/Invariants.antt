use Rattle.std.proofs.Common.{◌≡◌, ◌++◌, ◌<◌}
use Rattle.xdg_domain.specs.Cards.{IsCards}
use Rattle.xdg_packed.specs.Spelling as spec
use Rattle.xdg_packed.proofs.spelling.push_cards.Given as goal
use Rattle.xdg_facts.proofs.Members.{members_from}

abbrev pub invariant-loop-number : goal.invariant-loop-number
invariant-loop-number l =
    (l.out ++ spec.numbers (members_from 128 l.cards l.number) ≡ l.fn.out ++ spec.numbers (members_from 128 l.cards 0)) × (l.initial.number < l.number → IsCards l.cards)

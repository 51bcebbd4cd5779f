use Rattle.std.proofs.Common.{◌≡◌, ◌++◌, ◌<◌}
use Rattle.xdg_domain.specs.Cards.{IsCards}
use Rattle.xdg_facts.proofs.Members.{members_from}
use Rattle.xdg_build.proofs.rows.cards_row.Given as goal

abbrev pub invariant-loop-number : goal.invariant-loop-number
invariant-loop-number l = (l.numbers.items ++ members_from l.end l.cards l.number ≡ members_from l.end l.cards l.least) × (l.least < l.number → IsCards l.cards)

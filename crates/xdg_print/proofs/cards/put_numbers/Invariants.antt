use Rattle.std.proofs.Common.{◌≡◌, ◌<◌, map}
use Rattle.xdg_ast.specs.Words.{number}
use Rattle.xdg_domain.specs.Cards.{IsCards}
use Rattle.xdg_print.specs.Printed.{put}
use Rattle.xdg_print.proofs.cards.put_numbers.Given as goal
use Rattle.xdg_facts.proofs.Members.{members_from}

abbrev pub invariant-loop-number : goal.invariant-loop-number
invariant-loop-number l = (put (map number (members_from 128 l.cards l.number)) l.printer ≡ put (map number (members_from 128 l.cards 0)) l.initial.printer) × (0 < l.number → IsCards l.cards)

use Rattle.std.proofs.Common.{◌≡◌}
use Rattle.std.specs.Option.{option_copied}
use Rattle.xdg_domain.specs.Keys.{KeysBelow}
use Rattle.xdg_packed.specs.Filled.{filled_cards, cards_said}
use Rattle.xdg_packed.proofs.filling.filled_valency.Given as goal

abbrev pub invariant-loop-key : goal.invariant-loop-key
invariant-loop-key l = KeysBelow l.key l.all × (l.all ≡ filled_cards l.key (cards_said (option_copied l.said)))

use Rattle.std.proofs.Common.{◌≡◌, take, length}
use Rattle.xdg_domain.proofs.comparing.same_cards.Given as goal

abbrev pub invariant-loop-at : goal.invariant-loop-at
invariant-loop-at l = (length l.one ≡ length l.other) × (take l.at l.one ≡ take l.at l.other)

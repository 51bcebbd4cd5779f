use Rattle.std.proofs.Common.{◌≡◌, take, length}
use Rattle.xdg_domain.proofs.+same.Given as goal

abbrev pub invariant-comparing::same_entries-loop-at : goal.invariant-comparing::same_entries-loop-at
invariant-comparing::same_entries-loop-at l = (length l.one ≡ length l.other) × (take l.at l.one ≡ take l.at l.other)

abbrev pub invariant-comparing::same_fields-loop-at : goal.invariant-comparing::same_fields-loop-at
invariant-comparing::same_fields-loop-at l = (length l.one ≡ length l.other) × (take l.at l.one ≡ take l.at l.other)

use Rattle.std.proofs.Common.{ℕ, ◌<◌, ◌≤◌}
use Rattle.xdg_lexicon.specs.Growing.{count_at}
use Rattle.xdg_lexicon.proofs.growing.Growing.first_crowded.Given as goal

abbrev pub invariant-loop-number : goal.invariant-loop-number
invariant-loop-number l = (n : ℕ) → n < l.number → count_at l.self.packing n ≤ 1024

use Rattle.std.proofs.Common.{◌≡◌, ◌+◌, drop}
use Rattle.xdg_linear.specs.Ranks.{rank_of}
use Rattle.xdg_linear.proofs.ranking.rank.Given as goal

abbrev pub invariant-loop-place : goal.invariant-loop-place
invariant-loop-place l = rank_of (drop l.place l.words) l.text + l.place ≡ rank_of l.words l.text

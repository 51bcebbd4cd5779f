use Rattle.std.proofs.Common.{◌≡◌, take}
use Rattle.xdg_linear.specs.Ranks.{words_at}
use Rattle.xdg_arrange.proofs.printing.words_at.Given as goal

abbrev pub invariant-loop-rank : goal.invariant-loop-rank
invariant-loop-rank l = l.made ≡ words_at l.words (take l.rank-index l.ranks)

use Rattle.std.proofs.Common.{◌≡◌, map, take}
use Rattle.xdg_linear.specs.Ranks.{rank_of}
use Rattle.xdg_linear.proofs.ranking.ranks.Given as goal

abbrev pub invariant-loop-word : goal.invariant-loop-word
invariant-loop-word l = l.ranks.items ≡ map (λ word. rank_of l.words word.text) (take l.word-index l.words)

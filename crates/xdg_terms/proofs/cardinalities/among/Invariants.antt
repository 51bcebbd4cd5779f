use Rattle.xdg_terms.proofs.Counting.{Upto}
use Rattle.xdg_terms.proofs.cardinalities.among.Given as goal

abbrev pub invariant-loop-num : goal.invariant-loop-num
invariant-loop-num l = Upto l.numbers l.num-index l.made

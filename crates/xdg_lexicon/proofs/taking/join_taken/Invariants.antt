use Rattle.xdg_lexicon.proofs.Taken.{TakenSoFar}
use Rattle.xdg_lexicon.proofs.taking.join_taken.Given as goal

abbrev pub invariant-loop-left : goal.invariant-loop-left
invariant-loop-left l = TakenSoFar l.fn.fields l.fn.one l.fn.other l.left l.one l.other l.made

abbrev pub decreases-loop-left : goal.decreases-loop-left
decreases-loop-left l = l.left

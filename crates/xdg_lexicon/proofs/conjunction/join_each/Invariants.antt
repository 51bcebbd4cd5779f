use Rattle.xdg_lexicon.proofs.Joining.{EachSoFar}
use Rattle.xdg_lexicon.proofs.conjunction.join_each.Given as goal

abbrev pub invariant-loop-other : goal.invariant-loop-other
invariant-loop-other l = EachSoFar l.fn.dims l.fn.one l.fn.others l.initial.made.items l.other-index l.made.items

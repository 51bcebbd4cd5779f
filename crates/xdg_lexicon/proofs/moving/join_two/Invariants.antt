use Rattle.std.proofs.Common.{length}
use Rattle.xdg_lexicon.proofs.Backwards.{BackSoFar}
use Rattle.xdg_lexicon.proofs.Dims.{JoinsAt}
use Rattle.xdg_lexicon.proofs.moving.join_two.Given as goal

abbrev pub invariant-loop-mine : goal.invariant-loop-mine
invariant-loop-mine l = BackSoFar (JoinsAt l.fn.dims l.fn.one l.fn.other) (length l.fn.dims) l.fn.one l.fn.other l.one l.other l.made

abbrev pub decreases-loop-mine : goal.decreases-loop-mine
decreases-loop-mine l = length l.one

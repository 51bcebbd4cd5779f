use Rattle.xdg_lexicon.proofs.Dims.{SoFar, JoinsAt}
use Rattle.xdg_lexicon.proofs.entries.join_partial.Given as goal

abbrev pub invariant-loop-place : goal.invariant-loop-place
invariant-loop-place l = SoFar (JoinsAt l.fn.dims l.fn.one l.fn.other) l.place l.made

use Rattle.xdg_lexicon.proofs.Right.{RecordsSoFar}
use Rattle.xdg_lexicon.proofs.filling.whole_entry.Given as goal

abbrev pub invariant-loop-place : goal.invariant-loop-place
invariant-loop-place l = RecordsSoFar l.types l.partial l.place-index l.entry

use Rattle.xdg_packed.proofs.Steps.{SoFar}
use Rattle.xdg_lexicon.proofs.filling.filled_record.Given as goal

abbrev pub invariant-loop-i : goal.invariant-loop-i
invariant-loop-i l = SoFar l.types l.said l.i l.rest l.all

use Rattle.xdg_packed.proofs.Places.{NoWordBefore}
use Rattle.xdg_packed.proofs.word.word_place.Given as goal

abbrev pub invariant-loop-place : goal.invariant-loop-place
invariant-loop-place l = NoWordBefore l.dims l.used l.place

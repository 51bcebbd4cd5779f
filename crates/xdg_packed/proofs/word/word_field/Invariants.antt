use Rattle.xdg_packed.proofs.Places.{NoWordField}
use Rattle.xdg_packed.proofs.word.word_field.Given as goal

abbrev pub invariant-loop-place : goal.invariant-loop-place
invariant-loop-place l = NoWordField l.fields l.place

use Rattle.xdg_lexicon.specs.Made.{IsMade}
use Rattle.xdg_lexicon.proofs.Fields.{Joining}
use Rattle.xdg_lexicon.proofs.records.join_records.Given as goal

abbrev pub invariant-loop-place : goal.invariant-loop-place
invariant-loop-place l = IsMade (Joining l.fn.fields l.fn.one l.fn.other) 0 l.place l.made

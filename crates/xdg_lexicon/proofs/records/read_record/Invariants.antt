use Rattle.xdg_lexicon.specs.Made.{IsMade}
use Rattle.xdg_lexicon.proofs.Fields.{Reading}
use Rattle.xdg_lexicon.proofs.records.read_record.Given as goal

abbrev pub invariant-loop-place : goal.invariant-loop-place
invariant-loop-place l = IsMade (Reading l.fn.bindings l.fn.fields l.fn.pairs) 0 l.place l.made

use Rattle.std.proofs.Common.{◌≡◌, drop}
use Rattle.xdg_reading.specs.Fitted.{words_fault}
use Rattle.xdg_reading.proofs.word_entries.words_fault.Given as goal

abbrev pub invariant-loop-k : goal.invariant-loop-k
invariant-loop-k l = words_fault (drop l.k l.candidates) (drop l.k l.words) (drop l.k l.entries) ≡ words_fault l.candidates l.words l.entries

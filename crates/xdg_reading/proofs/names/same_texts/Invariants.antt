use Rattle.std.proofs.Common.{◌≡◌, drop}
use Rattle.xdg_reading.specs.Names.{same_texts}
use Rattle.xdg_reading.proofs.names.same_texts.Given as goal

abbrev pub invariant-loop-k : goal.invariant-loop-k
invariant-loop-k l = same_texts (drop l.k l.xs) (drop l.k l.ys) ≡ same_texts l.xs l.ys

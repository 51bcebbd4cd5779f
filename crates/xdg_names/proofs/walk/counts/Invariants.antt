use Rattle.std.proofs.Common.{◌≡◌, length, map, take}
use Rattle.xdg_names.proofs.walk.counts.Given as goal

abbrev pub invariant-loop-uses : goal.invariant-loop-uses
invariant-loop-uses l = l.made.items ≡ map length (take l.uses-index l.graph)

use Rattle.std.proofs.Common.{◌≡◌, take}
use Rattle.xdg_terms.specs.Means.{chosen}
use Rattle.xdg_terms.specs.Built.{constants_each}
use Rattle.xdg_build.proofs.shown.texts.Given as goal

abbrev pub invariant-loop-i : goal.invariant-loop-i
invariant-loop-i l = l.made ≡ take l.i (chosen (constants_each l.fields) l.tuple)

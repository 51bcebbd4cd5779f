use Rattle.std.proofs.Common.{List}
use Rattle.xdg_types.specs.Parts.{Statement}
use Rattle.xdg_types.specs.Table.{Table}
use Rattle.xdg_classes.specs.KnownWants.{Fits, AreRightUpTo}
use Rattle.xdg_classes.proofs.collecting.all_wants.Given as goal

abbrev pub invariant-loop-at : goal.invariant-loop-at
invariant-loop-at l = (statements : List Statement) (table : Table) → Fits statements table l.features l.classes → AreRightUpTo statements table l.classes l.known.items l.at-index

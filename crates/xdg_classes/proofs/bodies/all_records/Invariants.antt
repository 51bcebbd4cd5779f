use Rattle.std.proofs.Common.{◌≡◌, map, take}
use Rattle.xdg_classes.specs.Names as all
use Rattle.xdg_classes.specs.Lent.{said}
use Rattle.xdg_classes.proofs.bodies.all_records.Given as goal

abbrev pub invariant-loop-statement : goal.invariant-loop-statement
invariant-loop-statement l = map said l.made ≡ all.all_records (take l.statement-index l.statements)

use Rattle.std.proofs.Common.{◌≡◌, map, take}
use Rattle.xdg_classes.specs.Definitions as spec
use Rattle.xdg_classes.specs.Lent.{class_def}
use Rattle.xdg_classes.proofs.definitions.definitions.Given as goal

abbrev pub invariant-loop-statement : goal.invariant-loop-statement
invariant-loop-statement l = map class_def l.made ≡ spec.classes (take l.statement-index l.statements)

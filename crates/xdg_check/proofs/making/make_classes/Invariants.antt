use Rattle.std.proofs.Common.{map, take}
use Rattle.xdg_classes.specs.Lent.{class_def}
use Rattle.xdg_check.specs.Answers.{AreClassesOf}
use Rattle.xdg_check.specs.Made.{IsNamed}
use Rattle.xdg_check.proofs.making.make_classes.Given as goal

abbrev pub invariant-loop-class : goal.invariant-loop-class
invariant-loop-class l = IsNamed l.classes → AreClassesOf (map class_def l.classes.definitions) (map class_def (take l.class-index l.class-items)) l.made.items

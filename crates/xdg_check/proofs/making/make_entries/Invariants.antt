use Rattle.std.proofs.Common.{map, take}
use Rattle.xdg_classes.specs.Definitions.{entries}
use Rattle.xdg_classes.specs.Lent.{class_def}
use Rattle.xdg_check.specs.Answers.{AreEntriesOf}
use Rattle.xdg_check.specs.Made.{IsNamed}
use Rattle.xdg_check.proofs.making.make_entries.Given as goal

abbrev pub invariant-loop-statement : goal.invariant-loop-statement
invariant-loop-statement l = IsNamed l.classes → AreEntriesOf (map class_def l.classes.definitions) (entries (take l.statement-index l.statements)) l.made

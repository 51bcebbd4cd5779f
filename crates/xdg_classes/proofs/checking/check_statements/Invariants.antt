use Rattle.std.proofs.Common.{take}
use Rattle.xdg_names.specs.First.{Tells}
use Rattle.xdg_classes.specs.Given.{told}
use Rattle.xdg_classes.specs.Collected.{feature_of}
use Rattle.xdg_classes.specs.Wrong as wrong
use Rattle.xdg_classes.proofs.checking.check_statements.Given as goal

abbrev pub invariant-loop-statement : goal.invariant-loop-statement
invariant-loop-statement l = Tells (wrong.SomeOf (take l.statement-index l.statements) (wrong.StatementWrong (feature_of l.features) (told l.classes.names l.known))) l.found

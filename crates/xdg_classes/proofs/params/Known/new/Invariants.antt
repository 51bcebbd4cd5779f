use Rattle.std.proofs.Common.{map, take}
use Rattle.xdg_classes.specs.Known.{shown, KnowsClasses}
use Rattle.xdg_classes.specs.Lent.{class_def}
use Rattle.xdg_classes.proofs.params.Known.new.Given as goal

abbrev pub invariant-loop-definition : goal.invariant-loop-definition
invariant-loop-definition l = KnowsClasses (map class_def (take l.definition-index l.definitions)) l.names (map shown l.params)

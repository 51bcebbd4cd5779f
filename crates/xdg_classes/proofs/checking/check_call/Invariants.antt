use Rattle.std.proofs.Common.{take}
use Rattle.xdg_names.specs.First.{Tells}
use Rattle.xdg_classes.specs.Given.{told}
use Rattle.xdg_classes.specs.Wrong as wrong
use Rattle.xdg_classes.proofs.checking.check_call.Given as goal

abbrev pub invariant-loop-arg : goal.invariant-loop-arg
invariant-loop-arg l = Tells (wrong.SomeOf (take l.arg-index l.arg-items) (λ arg. wrong.ValueWrong ((told l.classes.names l.known) l.call.name.now.text arg.key.text) l.params arg.value)) l.found

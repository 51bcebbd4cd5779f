use Rattle.std.proofs.Common.{take}
use Rattle.xdg_names.specs.First.{Tells}
use Rattle.xdg_classes.specs.Lent.{called}
use Rattle.xdg_classes.specs.Given.{told}
use Rattle.xdg_classes.specs.Wrong as wrong
use Rattle.xdg_classes.proofs.checking.check_calls.Given as goal

abbrev pub invariant-loop-call : goal.invariant-loop-call
invariant-loop-call l = Tells (wrong.SomeOf (take l.call-index l.calls) (λ call. wrong.CallWrong (told l.classes.names l.known) l.params (called call))) l.found

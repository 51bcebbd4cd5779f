use Rattle.std.proofs.Common.{take}
use Rattle.std.specs.List.{flat_map}
use Rattle.xdg_classes.specs.Lent.{called}
use Rattle.xdg_classes.specs.Given as spec
use Rattle.xdg_classes.specs.Collected as all
use Rattle.xdg_classes.proofs.collecting.add_calls.Given as goal

abbrev pub invariant-loop-call : goal.invariant-loop-call
invariant-loop-call l = spec.Grows l.initial.wants l.wants (flat_map (λ call. all.call_wants (spec.told l.classes.names l.known) l.params (called call)) (take l.call-index l.calls))

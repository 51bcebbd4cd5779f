use Rattle.std.proofs.Common.{List, map, drop}
use Rattle.xdg_types.proofs.FaultTurns.{FoundSoFar}
use Rattle.xdg_classes.specs.Definitions.{ClassDef}
use Rattle.xdg_classes.specs.NameFaults as spec
use Rattle.xdg_classes.specs.Known.{shown, KnowsClasses}
use Rattle.xdg_classes.specs.Lent.{called}
use Rattle.xdg_classes.proofs.uses.check_calls.Given as goal

abbrev pub invariant-loop-call : goal.invariant-loop-call
invariant-loop-call l =
    (cs : List ClassDef) → KnowsClasses cs l.known.names (map shown l.known.params)
    → FoundSoFar l.found (spec.call_faults cs) (map called (drop l.call-index l.calls)) (map called l.calls)
